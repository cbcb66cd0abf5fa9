-- A union keeps the order of its morsels over updates and Opens.
use Rattle.std.proofs.Common.{◌≡◌, ℕ, zero, suc, ◌<◌, ◌⊎◌, Bool, true, false, List, [], ◌∷◌, length, take, Some, refl, sym, ap, subst, ◌∙◌, inl, inr, arith}
use Rattle.std.specs.Prelude.{Contains, IsTrue, get_or, slice_get, ◌||◌}
use Rattle.std.proofs.lemmas.Option.{slice_get_within}
use Rattle.ps_frame.specs.Functions.{Functions}
use Rattle.ps_meaning.specs.Shape.{PhysicalKind, PhysicalNode, ordered_union}
use Rattle.ps_meaning.specs.Sound.{HasReaders}
use Rattle.ps_ports.specs.Ports.{all_done, first_port, is_done, is_ready, kept_done, kept_state, repeated}
use Rattle.ps_ports.specs.Phases.{is_in_phase}
use Rattle.ps_ports.specs.Wires.{both_ready}
use Rattle.ps_ports.specs.declared.port_state.PortState.{PortState}
use Rattle.ps_ports.specs.declared.port_state.PortState.TheVariants as port
use Rattle.ps_turns.specs.Progress.{Progress}
use Rattle.ps_turns.specs.Updates.{answer_by, union_inputs, union_output}
use Rattle.ps_world.specs.Facts.{HasNoUse, Joins, is_over_slice}
use Rattle.ps_world.specs.Phases.{intensive_at, with_phase}
use Rattle.ps_world.specs.Updates.{IsSettled, empty_outs, given_at}
use Rattle.ps_world.specs.World.{Node, Pipe, Record, World, heads_of, pipes_in, schemas_for, shape_of, wires_of}
use Rattle.world_claims.specs.Numbering.{Known}
use Rattle.world_facts.proofs.CutOff.{both_true}
use Rattle.world_facts.proofs.DropsDone.{drops_are_done}
use Rattle.world_facts.proofs.Placing.{has_readers, in_place}
use Rattle.world_laws.proofs.Agree.{from_map, reader_says}
use Rattle.family_pipes.proofs.Complete.{complete}
use Rattle.family_pipes.proofs.Inputs.{enters, inputs_long}
use Rattle.world_families.proofs.Members.{nothing_is}
use Rattle.family_pipes.proofs.Outputs.{gives_keep}
use Rattle.world_families.specs.Sources.{KeepsNone}
use Rattle.world_families.specs.Unions.{HoldsUnion, morsels_read}
use Rattle.world_families.specs.Work.{AllComplete, Enters, IsComplete, Leaves}
use Rattle.family_keeps.proofs.Done.{DoneFits, sent_cases}
use Rattle.orderly_worlds.proofs.Orderly.{Newly, Orderly, all_done_at, complete_turned, newly}
use Rattle.orderly_worlds.proofs.PortPipes.{given_input, given_output}
use Rattle.orderly_worlds.proofs.Says.{unions_all}
use Rattle.orderly_worlds.proofs.Stands.{Stands}
use Rattle.orderly_worlds.proofs.Turned.{Turned, answer, turned, turned_from}
use Rattle.family_keeps.proofs.Unions.{AtEach, UnionWork, read_same, same_schemas, union_work}

-- a pipe beside the one before that got and gave nothing
pub record Quiet (x y : Pipe) : Type 0 where
  pub got : y.got ≡ x.got
  pub next : y.next ≡ x.next
  pub completes : IsComplete x → IsComplete y

module _ (F : Functions) (w v : World) (n : ℕ) (node y : Node) (kw : Known F w) (kv : Known F v) (shape : shape_of v ≡ shape_of w) (there : slice_get w.nodes n ≡ Some node) (at : slice_get v.nodes n ≡ Some y) (s : Stands node y) (h : HoldsUnion F w n node)
    (back : (b : Pipe) → Contains v.pipes b → (a : Pipe) × Contains w.pipes a × (b.wire.sender ≡ a.wire.sender) × (b.wire.receiver ≡ a.wire.receiver) × (b.wire.input ≡ a.wire.input) × Quiet a b) (outs : v.outs ≡ w.outs) where
  long : length (pipes_in w n) ≡ length (pipes_in v n)
  long = inputs_long F w kw.facts n node there ∙ ap (λ (p : PhysicalNode). length p.inputs) (sym s.node) ∙ sym (inputs_long F v kv.facts n y at)

  same_read : morsels_read (pipes_in v n) ≡ morsels_read (pipes_in w n)
  same_read = read_same (pipes_in w n) (pipes_in v n) long each
    where
      each : AtEach (λ k a b. take b.next b.got ≡ take a.next a.got) (pipes_in w n) (pipes_in v n)
      each k a b e f =
          let ea = enters F w kw.facts n k a e in
          let eb = enters F v kv.facts n k b f in
          let x = back b eb.0.0 in
          let same = kw.facts.one_input x.0 a x.1 ea.0.0 (sym x.3 ∙ eb.0.1 ∙ sym ea.0.1) (sym x.4 ∙ eb.1 ∙ sym ea.1) in
          subst (λ (z : Pipe). take b.next b.got ≡ take z.next z.got) same (λ i. take (x.5.next i) (x.5.got i))

  all_quiet : AllComplete w n → AllComplete v n
  all_quiet all q c = let x = back q c.0 in x.5.completes (all x.0 (x.1, sym x.3 ∙ c.1))

  pub quiet_union : ((q r : Pipe) → Enters v n q → Enters v n r → q.wire.input < r.wire.input → IsTrue r.in_phase → IsComplete q) → ((p : Pipe) → Leaves v n p → IsComplete p → ((x : Pipe) × Leaves w n x × IsComplete x) ⊎ AllComplete v n) → HoldsUnion F v n y
  quiet_union phase completes =
      record {
        in_turn = λ q r cq cr less turn. by q r cq cr less turn;
        counted = s.sent ∙ h.counted ∙ ap length (sym same_read);
        gives =
            gives_keep F w v n (UnionWork (schemas_for w node) (morsels_read (pipes_in w n))) (UnionWork (schemas_for v y) (morsels_read (pipes_in v n))) KeepsNone KeepsNone (AllComplete w n) (AllComplete v n)
            (λ k x u. (u.0, ap (λ ms. slice_get ms k) same_read ∙ u.1, u.2 ∙ ap (λ ss. union_work ss u.0) (sym (same_schemas w v node y shape s.node))))
            (λ q none. none) (λ q rs none r. absurd none)
            (λ p k rs l e. let x = back p l.0 in inl (x.0, (x.1, sym x.2 ∙ l.1), ap (λ xs. slice_get xs k) (sym x.5.got) ∙ e))
            (λ q c e. inl (subst (λ qs. Contains qs q) outs c))
            (λ p l c. given (completes p l c)) h.gives;
      }
    where
      given : ((x : Pipe) × Leaves w n x × IsComplete x) ⊎ AllComplete v n → ((x : Pipe) × Leaves w n x × IsComplete x × (AllComplete w n → AllComplete v n)) ⊎ AllComplete v n
      given (inl old) = inl (old.0, old.1, old.2, all_quiet)
      given (inr now) = inr now

      by : (q r : Pipe) → Enters v n q → Enters v n r → q.wire.input < r.wire.input → (0 < r.next) ⊎ IsTrue r.in_phase → IsComplete q
      by q r cq cr less (inr on) = phase q r cq cr less on
      by q r cq cr less (inl some) =
          let a = back q cq.0 in
          let b = back r cr.0 in
          let first = a.4 in
          let second = b.4 in
          let read = b.5.next in
          a.5.completes (h.in_turn a.0 b.0 (a.1, sym a.3 ∙ cq.1) (b.1, sym b.3 ∙ cr.1) (omega (arith, first, second, less)) (inl (omega (arith, read, some))))

-- AN UPDATE
not_over : (kind : PhysicalKind) (k : ℕ) → kind ≡ ordered_union → is_over_slice kind k ≡ true → ⊥
not_over kind k is e = let no : false ≡ true = ap (λ z. is_over_slice z k) (sym is) ∙ e in cc

module _ (F : Functions) (w : World) (m : ℕ) (other : Node) (progress : Progress) (o : Orderly F w) (shut : w.is_open ≡ false) (at_m : slice_get w.nodes m ≡ Some other) (booked : progress.booked ≡ other.progress.booked) (kv : Known F (turned w m other progress at_m))
    (shape : shape_of (turned w m other progress at_m) ≡ shape_of w) where
  abbrev v : World
  v = turned w m other progress at_m

  module _ (n : ℕ) (node y : Node) (there : slice_get w.nodes n ≡ Some node) (at : slice_get v.nodes n ≡ Some y) (s : Stands node y) (is_one : node.node.kind ≡ ordered_union) (done : DoneFits w n) (h : HoldsUnion F w n node) where
    unmarked : (r : Pipe) → Contains v.pipes r → r.in_phase ≡ true → ⊥
    unmarked r c on = by (turned_from w m other progress at_m r c)
      where
        by : (x : Pipe) × Contains w.pipes x × Turned m (answer w m other progress at_m) x r → ⊥
        by (x, cx, t) = let no : false ≡ true = sym shut ∙ ((o.known.facts.pipes x cx).at_hand (sym t.in_phase ∙ on)).1 in cc

    -- newly complete: all inputs were sent to their ends
    all_sent : (x p : Pipe) → Leaves w n x → Turned m (answer w m other progress at_m) x p → Newly F w m other progress o shut at_m x p → AllComplete v n
    all_sent x p lx t new q cq = by (turned_from w m other progress at_m q cq.0)
      where
        here : n ≡ m
        here = sym lx.1 ∙ new.from

        other_is : other.node.kind ≡ ordered_union
        other_is =
            let two : Some node ≡ Some other = sym there ∙ ap (slice_get w.nodes) here ∙ at_m in
            let same : node ≡ other = cc in
            ap (λ (z : Node). z.node.kind) (sym same) ∙ is_one

        outputs : (answer w m other progress at_m).outputs ≡ kept_done (given_at w m).outputs (union_output (given_at w m).inputs ∷ [])
        outputs = ap (λ k. kept_done (given_at w m).outputs (answer_by w.options k progress (heads_of w m other) (empty_outs w m) (given_at w m)).outputs) other_is

        given : slice_get (given_at w m).outputs x.wire.port ≡ Some x.wire.receive_state
        given = ap (λ k. slice_get (given_at w k).outputs x.wire.port) (sym here ∙ sym lx.1) ∙ given_output F w o.known.facts x lx.0

        told : (is_done x.wire.receive_state ≡ true) ⊎ (all_done (given_at w m).inputs ≡ true)
        told = unions_all w.options progress (heads_of w m other) (empty_outs w m) (given_at w m) x.wire.port x.wire.receive_state x.wire.send_state given new.sent (ap (λ os. is_done (get_or os x.wire.port x.wire.send_state)) (sym outputs) ∙ new.said)

        sent : (is_done x.wire.receive_state ≡ true) ⊎ (all_done (given_at w m).inputs ≡ true) → (z : Pipe) → Enters w n z → is_done z.wire.send_state ≡ true
        sent (inl d) z ez = absurd (let no : true ≡ false = sym d ∙ new.reader in cc)
        sent (inr all) z ez = all_done_at (given_at w m).inputs z.wire.input z.wire.send_state all (ap (λ k. slice_get (given_at w k).inputs z.wire.input) (sym here ∙ sym ez.1) ∙ given_input F w o.known.facts z ez.0)

        used : HasNoUse w n → ⊥
        used (inl (z, at_z, over)) =
            let two : Some node ≡ Some z = sym there ∙ at_z in
            let same : node ≡ z = cc in
            not_over z.node.kind z.progress.booked (ap (λ (u : Node). u.node.kind) (sym same) ∙ is_one) over
        used (inr (z, cz, from, each)) = let no : false ≡ true = sym (λ i. new.dropped i || new.reader i) ∙ each x lx.0 lx.1 in cc

        of : (z : Pipe) → Turned m (answer w m other progress at_m) z q → IsComplete z ⊎ HasNoUse w n → IsComplete q
        of z tz (inl is) = complete_turned F w m other progress o shut at_m z q tz is
        of z tz (inr none) = absurd (used none)

        by : (z : Pipe) × Contains w.pipes z × Turned m (answer w m other progress at_m) z q → IsComplete q
        by (z, cz, tz) =
            let ez : Enters w n z = (cz, ap (λ (j : Joins). j.receiver) (sym tz.joins) ∙ cq.1) in
            of z tz (sent_cases F w m other progress o shut at_m booked n z ez (sent told z ez) done)

    pub union_turned : HoldsUnion F v n y
    union_turned =
        quiet_union F w v n node y o.known kv shape there at s h
        (λ b c. let x = turned_from w m other progress at_m b c in (x.0, x.1, ap (λ (j : Joins). j.sender) x.2.joins, ap (λ (j : Joins). j.receiver) x.2.joins, ap (λ (j : Joins). j.input) x.2.joins, record { got = x.2.got; next = x.2.next; completes = complete_turned F w m other progress o shut at_m x.0 b x.2 })) refl
        (λ q r cq cr less on. absurd (unmarked r cr.0 on))
        (λ p l c. let x = turned_from w m other progress at_m p l.0 in by x.0 p (x.1, ap (λ (j : Joins). j.sender) (sym x.2.joins) ∙ l.1) x.2 (newly F w m other progress o shut at_m x.0 p x.1 x.2 c))
      where
        by : (x p : Pipe) → Leaves w n x → Turned m (answer w m other progress at_m) x p → IsComplete x ⊎ Newly F w m other progress o shut at_m x p → ((z : Pipe) × Leaves w n z × IsComplete z) ⊎ AllComplete v n
        by x p l t (inl was) = inl (x, l, was)
        by x p l t (inr new) = inr (all_sent x p l t new)

-- AN OPEN
-- what is blocked isn't ready
never_ready : (ss : List PortState) (k : ℕ) (d : PortState) → k < length ss → is_ready (get_or (kept_done ss (repeated port.Blocked ss)) k d) ≡ true → ⊥
never_ready [] k d short e = omega arith
never_ready (port.Done ∷ ss) zero d short e = let no : false ≡ true = e in cc
never_ready (port.Ready ∷ ss) zero d short e = let no : false ≡ true = e in cc
never_ready (port.Blocked ∷ ss) zero d short e = let no : false ≡ true = e in cc
never_ready (s ∷ ss) (suc k) d short e = never_ready ss k d (omega arith) e

-- an input of a union is ready only where those before are done
ready_after : (out : PortState) (ss : List PortState) (i k : ℕ) (d : PortState) → i < k → k < length ss → is_ready (get_or (kept_done ss (union_inputs out ss)) k d) ≡ true → (s : PortState) × (slice_get ss i ≡ Some s) × (is_done s ≡ true)
ready_after out [] i k d less short e = absurd (omega arith)
ready_after out (s ∷ ss) i zero d less short e = absurd (omega arith)
ready_after out (port.Done ∷ ss) zero (suc k) d less short e = (port.Done, refl, refl)
ready_after out (port.Done ∷ ss) (suc i) (suc k) d less short e = ready_after out ss i k d (omega arith) (omega arith) e
ready_after out (port.Ready ∷ ss) i (suc k) d less short e = absurd (never_ready ss k d (omega arith) e)
ready_after out (port.Blocked ∷ ss) i (suc k) d less short e = absurd (never_ready ss k d (omega arith) e)

-- and none is where the output is done
no_ready : (out : PortState) (ss : List PortState) (k : ℕ) (d : PortState) → is_done out ≡ true → k < length ss → is_ready (get_or (kept_done ss (union_inputs out ss)) k d) ≡ true → ⊥
no_ready out [] k d over short e = omega arith
no_ready out (port.Done ∷ ss) zero d over short e = let no : false ≡ true = e in cc
no_ready out (port.Done ∷ ss) (suc k) d over short e = no_ready out ss k d over (omega arith) e
no_ready out (port.Ready ∷ ss) zero d over short e = both out over e
  where
    both : (s : PortState) → is_done s ≡ true → is_ready s ≡ true → ⊥
    both port.Done d r = let no : false ≡ true = r in cc
    both port.Ready d r = let no : false ≡ true = d in cc
    both port.Blocked d r = let no : false ≡ true = d in cc
no_ready out (port.Ready ∷ ss) (suc k) d over short e = never_ready ss k d (omega arith) e
no_ready out (port.Blocked ∷ ss) zero d over short e = both out over e
  where
    both : (s : PortState) → is_done s ≡ true → is_ready s ≡ true → ⊥
    both port.Done d r = let no : false ≡ true = r in cc
    both port.Ready d r = let no : false ≡ true = d in cc
    both port.Blocked d r = let no : false ≡ true = d in cc
no_ready out (port.Blocked ∷ ss) (suc k) d over short e = never_ready ss k d (omega arith) e

kept_ready : (old new : PortState) → is_ready (kept_state old new) ≡ true → is_ready new ≡ true
kept_ready port.Done new e = absurd (let no : false ≡ true = e in cc)
kept_ready port.Ready new e = e
kept_ready port.Blocked new e = e

only_port : (os : List PortState) (k : ℕ) (s : PortState) → length os ≡ 1 → slice_get os k ≡ Some s → first_port os ≡ s
only_port [] k s one e = absurd (omega arith)
only_port (o ∷ []) zero s one e = let q : Some o ≡ Some s = e in cc
only_port (o ∷ []) (suc k) s one e = absurd (nothing_is s e)
only_port (o ∷ p ∷ os) k s one e = absurd (omega arith)

two_of : (a b : Bool) → (a || b) ≡ true → (a ≡ true) ⊎ (b ≡ true)
two_of true b e = inl refl
two_of false b e = inr e

abbrev pub mark_of : World → Pipe → Pipe
mark_of s p = record p { in_phase = is_in_phase (length s.nodes) (intensive_at s) (wires_of s) p.wire }

pub unmark : (s : World) (x p : Pipe) → mark_of s x ≡ p → IsComplete p → IsComplete x
unmark s x p e c = let k : IsComplete (mark_of s x) = subst IsComplete (sym e) c in k

module _ (F : Functions) (s : World) (phase : ℕ) (journal : List Record) (n : ℕ) (node y : Node) (o : Orderly F s) (rest : IsSettled s) (kv : Known F (record (with_phase s) { phase = phase; journal = journal })) (shape : shape_of (with_phase s) ≡ shape_of s) (there : slice_get s.nodes n ≡ Some node)
    (at : slice_get (with_phase s).nodes n ≡ Some y) (st : Stands node y) (is_one : node.node.kind ≡ ordered_union) (done : DoneFits s n) (h : HoldsUnion F s n node) where
  abbrev ph : World
  ph = record (with_phase s) { phase = phase; journal = journal }

  from : (q : Pipe) → Contains ph.pipes q → (x : Pipe) × Contains s.pipes x × (mark_of s x ≡ q)
  from q c = from_map (mark_of s) q s.pipes c

  says : (x : Pipe) → Enters s n x → x.wire.receive_state ≡ kept_state x.wire.receive_state (get_or (kept_done (given_at s n).inputs (union_inputs (first_port (given_at s n).outputs) (given_at s n).inputs)) x.wire.input x.wire.receive_state)
  says x e =
      let there_x : slice_get s.nodes x.wire.receiver ≡ Some node = ap (slice_get s.nodes) e.1 ∙ there in
      let told = reader_says s (in_place F s o.known.facts) rest x e.0 node there_x in
      told
      ∙ ap (kept_state x.wire.receive_state)
      ((λ i. get_or (kept_done (given_at s (e.1 i)).inputs (answer_by s.options node.node.kind node.progress (heads_of s (e.1 i) node) (empty_outs s (e.1 i)) (given_at s (e.1 i))).inputs) x.wire.input x.wire.receive_state)
      ∙ (λ i. get_or (kept_done (given_at s n).inputs (answer_by s.options (is_one i) node.progress (heads_of s n node) (empty_outs s n) (given_at s n)).inputs) x.wire.input x.wire.receive_state))

  given : (x : Pipe) → Enters s n x → slice_get (given_at s n).inputs x.wire.input ≡ Some x.wire.send_state
  given x e = ap (λ k. slice_get (given_at s k).inputs x.wire.input) (sym e.1) ∙ given_input F s o.known.facts x e.0

  one_output : length (given_at s n).outputs ≡ 1
  one_output = subst (λ k. HasReaders k (length (given_at s n).outputs)) is_one (has_readers F s o.known.facts n node there)

  -- a union whose output nobody reads has no input that is ready
  used : (x : Pipe) → Enters s n x → is_ready x.wire.receive_state ≡ true → HasNoUse s n → ⊥
  used x e ready (inl (z, at_z, over)) =
      let two : Some node ≡ Some z = sym there ∙ at_z in
      let same : node ≡ z = cc in
      not_over z.node.kind z.progress.booked (ap (λ (u : Node). u.node.kind) (sym same) ∙ is_one) over
  used x e ready (inr (z, cz, leaves, each)) =
      let out : first_port (given_at s n).outputs ≡ z.wire.receive_state = only_port (given_at s n).outputs z.wire.port z.wire.receive_state one_output (ap (λ k. slice_get (given_at s k).outputs z.wire.port) (sym leaves) ∙ given_output F s o.known.facts z cz) in
      no_ready (first_port (given_at s n).outputs) (given_at s n).inputs x.wire.input x.wire.receive_state (ap is_done out ∙ over (two_of z.is_dropped (is_done z.wire.receive_state) (each z cz leaves))) (slice_get_within (given_at s n).inputs x.wire.input x.wire.send_state (given x e))
      (kept_ready x.wire.receive_state _ (ap is_ready (sym (says x e)) ∙ ready))
    where
      over : (z.is_dropped ≡ true) ⊎ (is_done z.wire.receive_state ≡ true) → is_done z.wire.receive_state ≡ true
      over (inl gone) = drops_are_done F s o.known.facts rest z cz gone
      over (inr d) = d

  before_complete : (a x : Pipe) → Enters s n a → Enters s n x → a.wire.input < x.wire.input → is_ready x.wire.receive_state ≡ true → IsComplete a
  before_complete a x ea ex less ready =
      let r = ready_after (first_port (given_at s n).outputs) (given_at s n).inputs a.wire.input x.wire.input x.wire.receive_state less (slice_get_within (given_at s n).inputs x.wire.input x.wire.send_state (given x ex)) (kept_ready x.wire.receive_state _ (ap is_ready (sym (says x ex)) ∙ ready)) in
      let two : Some a.wire.send_state ≡ Some r.0 = sym (given a ea) ∙ r.1 in
      let same : a.wire.send_state ≡ r.0 = cc in
      by a.is_dropped a.is_unread refl refl (ap is_done same ∙ r.2)
    where
      or_used : IsComplete a ⊎ HasNoUse s n → IsComplete a
      or_used (inl is) = is
      or_used (inr none) = absurd (used x ex ready none)

      by : (d u : Bool) → a.is_dropped ≡ d → a.is_unread ≡ u → is_done a.wire.send_state ≡ true → IsComplete a
      by true u gone e sent = absurd (used x ex ready (subst (HasNoUse s) ea.1 ((o.known.facts.pipes a ea.0).why_dropped gone)))
      by false true gone e sent = or_used (done a ea ((o.known.facts.pipes a ea.0).unread_done e))
      by false false gone e sent = complete a (record { done = sent; dropped = gone; unread = e })

  marked_complete : (x : Pipe) → IsComplete x → IsComplete (mark_of s x)
  marked_complete x c = c

  pub union_phase : HoldsUnion F ph n y
  union_phase =
      quiet_union F s ph n node y o.known kv shape there at st h
      (λ b c. let x = from b c in (x.0, x.1, ap (λ (p : Pipe). p.wire.sender) (sym x.2), ap (λ (p : Pipe). p.wire.receiver) (sym x.2), ap (λ (p : Pipe). p.wire.input) (sym x.2), record { got = ap (λ (p : Pipe). p.got) (sym x.2); next = ap (λ (p : Pipe). p.next) (sym x.2); completes = λ is. subst IsComplete x.2 (marked_complete x.0 is) })) refl
      (λ q r cq cr less on.
      let a = from q cq.0 in
      let x = from r cr.0 in
      let ea : Enters s n a.0 = (a.1, ap (λ (p : Pipe). p.wire.receiver) a.2 ∙ cq.1) in
      let ex : Enters s n x.0 = (x.1, ap (λ (p : Pipe). p.wire.receiver) x.2 ∙ cr.1) in
      let first = ap (λ (p : Pipe). p.wire.input) a.2 in
      let second = ap (λ (p : Pipe). p.wire.input) x.2 in
      let marked : is_in_phase (length s.nodes) (intensive_at s) (wires_of s) x.0.wire ≡ true = ap (λ (p : Pipe). p.in_phase) x.2 ∙ on in
      let ready = (both_true (is_ready x.0.wire.send_state) (is_ready x.0.wire.receive_state) (both_true (both_ready x.0.wire) _ marked).0).1 in
      subst IsComplete a.2 (marked_complete a.0 (before_complete a.0 x.0 ea ex (omega (arith, first, second, less)) ready)))
      (λ p l c. let x = from p l.0 in inl (x.0, (x.1, ap (λ (z : Pipe). z.wire.sender) x.2 ∙ l.1), unmark s x.0 p x.2 c))
