-- Updates and Opens keep what is kept of a zip.
use Rattle.std.proofs.Common.{◌≡◌, ℕ, ◌⊎◌, Bool, true, false, List, [], length, take, Some, refl, sym, ap, subst, ◌∙◌, inl, inr, arith}
use Rattle.std.specs.Prelude.{Contains, IsTrue, get_or, nat_eq, nat_lt, slice_get, ◌||◌}
use Rattle.std.specs.List.{filter as kept}
use Rattle.std.proofs.lemmas.List.{append-nil}
use Rattle.ps_frame.specs.Functions.{Functions}
use Rattle.ps_meaning.specs.Shape.{PhysicalKind, zip_node}
use Rattle.ps_meaning.specs.Sound.{HasReaders}
use Rattle.ps_ports.specs.Ports.{Sides, all_done, first_port, is_done, kept_done}
use Rattle.ps_turns.specs.Heads.{Head, heads_by, stored_rows}
use Rattle.ps_turns.specs.Progress.{Progress}
use Rattle.ps_turns.specs.Updates.{answer_by, zip_answer}
use Rattle.ps_world.specs.Facts.{HasNoUse, Joins, is_over_slice}
use Rattle.ps_world.specs.Updates.{empty_outs, given_at}
use Rattle.ps_world.specs.World.{Node, Pipe, World, heads_of, pipes_in, rows_in_order, shape_of}
use Rattle.world_claims.specs.Numbering.{Known}
use Rattle.world_ends.proofs.Back.{heads_over}
use Rattle.world_facts.proofs.HandedIn.{contains_of}
use Rattle.world_facts.proofs.Placing.{has_readers}
use Rattle.world_laws.proofs.InOrder.{contains_map}
use Rattle.world_laws.proofs.PassingPorts.{ordered, same_number, was_kept}
use Rattle.family_pipes.proofs.Inputs.{enters, inputs_long}
use Rattle.family_pipes.proofs.SourceSteps.{same_node}
use Rattle.family_keeps.proofs.Done.{AllOnward, DoneFits, StaysOver, no_use_on, sent_cases}
use Rattle.orderly_worlds.proofs.Orderly.{Newly, Orderly, all_done_at, complete_turned, newly}
use Rattle.orderly_worlds.proofs.PortPipes.{given_input, given_output, input_pipe}
use Rattle.orderly_worlds.proofs.Says.{kept_at, reader_pipe}
use Rattle.orderly_worlds.proofs.Stands.{Stands}
use Rattle.orderly_worlds.proofs.Turned.{Turned, answer, turned, turned_from, turns, written_pipe}
use Rattle.zip_laws.proofs.Cuts.{Grows, KeepsZip, StoresRead, all_on, zip_goes}
use Rattle.zip_laws.proofs.Ends.{first_done, in_over, only_port, out_over, over_means, over_tests}
use Rattle.zip_laws.proofs.Heads.{heads, no_more, one_ended, stored_are}
use Rattle.zip_laws.proofs.Steps.{one_output}
use Rattle.world_families.specs.Work.{AllComplete, Enters, IsComplete, Leaves, rows_read}
use Rattle.world_families.specs.Zips.{AllCut}

not_over : (kind : PhysicalKind) (extend : Bool) (k : ℕ) → kind ≡ zip_node extend → is_over_slice kind k ≡ true → ⊥
not_over kind extend k is e = let no : false ≡ true = ap (λ z. is_over_slice z k) (sym is) ∙ e in cc

second_true : (a b : Bool) → b ≡ true → (a || b) ≡ true
second_true true b e = refl
second_true false b e = e

-- AN UPDATE
module _ (F : Functions) (w : World) (m : ℕ) (other : Node) (progress : Progress) (o : Orderly F w) (shut : w.is_open ≡ false) (at_m : slice_get w.nodes m ≡ Some other) (booked : progress.booked ≡ other.progress.booked) (kv : Known F (turned w m other progress at_m))
    (shape : shape_of (turned w m other progress at_m) ≡ shape_of w) where
  abbrev v : World
  v = turned w m other progress at_m

  abbrev a : Sides
  a = answer w m other progress at_m

  -- THE ZIP ITSELF
  module _ (extend : Bool) (is_zip : other.node.kind ≡ zip_node extend) where
    abbrev hs : List Head
    hs = heads_of w m other

    abbrev given : Sides
    given = given_at w m

    says : a ≡ record { inputs = kept_done given.inputs (zip_answer hs given).inputs; outputs = kept_done given.outputs (zip_answer hs given).outputs }
    says = λ i. record { inputs = kept_done given.inputs (answer_by w.options (is_zip i) progress hs (empty_outs w m) given).inputs; outputs = kept_done given.outputs (answer_by w.options (is_zip i) progress hs (empty_outs w m) given).outputs }

    onward : AllOnward w v
    onward y c = let x = turned_from w m other progress at_m y c in (x.0, x.1, record { joins = x.2.joins; dropped = λ d. x.2.dropped ∙ d; received = x.2.received_on })

    stays_over : StaysOver w v m
    stays_over x y before after e = let same = same_node w m x other before at_m in absurd (not_over x.node.kind extend x.progress.booked (ap (λ (z : Node). z.node.kind) same ∙ is_zip) e)

    state_in : (x : Pipe) → Enters w m x → slice_get given.inputs x.wire.input ≡ Some x.wire.send_state
    state_in x e = ap (λ k. slice_get (given_at w k).inputs x.wire.input) (sym e.1) ∙ given_input F w o.known.facts x e.0

    state_out : (x : Pipe) → Leaves w m x → slice_get given.outputs x.wire.port ≡ Some x.wire.receive_state
    state_out x l = ap (λ k. slice_get (given_at w k).outputs x.wire.port) (sym l.1) ∙ given_output F w o.known.facts x l.0

    -- what it is done with was sent to its end, or nobody wants its rows
    pub zip_done : DoneFits w m → DoneFits v m
    zip_done done y c d =
        let x = turned_from w m other progress at_m y c.0 in
        by x.0 (x.1, ap (λ (j : Joins). j.receiver) (sym x.2.joins) ∙ c.1) x.2 (is_done x.0.wire.receive_state) refl (x.2.received_new d)
      where
        of : (x : Pipe) → Turned m a x y → IsComplete x ⊎ HasNoUse w m → IsComplete y ⊎ HasNoUse v m
        of x t (inl is) = inl (complete_turned F w m other progress o shut at_m x y t is)
        of x t (inr none) = inr (no_use_on F w v o.known kv shape onward m stays_over none)

        told : (x : Pipe) → Enters w m x → (is_done (first_port given.outputs) ≡ true) ⊎ (all_done given.inputs ≡ true) × (over_tests hs given ≡ true) → IsComplete x ⊎ HasNoUse w m
        told x e (inr (all, tests)) = sent_cases F w m other progress o shut at_m booked m x e (all_done_at given.inputs x.wire.input x.wire.send_state all (state_in x e)) done
        told x e (inl out) =
            let s = first_done given.outputs out in
            let z = reader_pipe w m 0 s.0 s.1 in
            inr (inr (z.0, z.1, z.2, λ q cq from. subst (λ (p : Pipe). IsTrue (p.is_dropped || is_done p.wire.receive_state)) (one_output F w m other extend o.known at_m is_zip z.0 q (z.1, z.2) (cq, from)) (second_true z.0.is_dropped (is_done z.0.wire.receive_state) (ap is_done z.3 ∙ s.2))))

        now_done : (x : Pipe) → Enters w m x → is_done x.wire.receive_state ≡ false → (is_done x.wire.send_state ≡ true) ⊎ (is_done (get_or (zip_answer hs given).inputs x.wire.input x.wire.receive_state) ≡ true) → IsComplete x ⊎ HasNoUse w m
        now_done x e none (inl sent) = sent_cases F w m other progress o shut at_m booked m x e sent done
        now_done x e none (inr now) = told x e (over_means hs given (in_over hs given x.wire.input x.wire.receive_state none now))

        by : (x : Pipe) → Enters w m x → Turned m a x y → (b : Bool) → is_done x.wire.receive_state ≡ b → (is_done x.wire.receive_state ≡ true) ⊎ (x.wire.receiver ≡ m) × (is_done (get_or a.inputs x.wire.input x.wire.receive_state) ≡ true) → IsComplete y ⊎ HasNoUse v m
        by x e t true was new = of x t (done x e was)
        by x e t false was (inl is) = absurd (let no : true ≡ false = sym is ∙ was in cc)
        by x e t false was (inr (here, now)) =
            of x t (now_done x e was (kept_at given.inputs (zip_answer hs given).inputs x.wire.input x.wire.send_state x.wire.receive_state (state_in x e) was (ap (λ (z : Sides). is_done (get_or z.inputs x.wire.input x.wire.receive_state)) (sym says) ∙ now)))

  -- ANY NODE
  module _ (n : ℕ) (node y : Node) (extend : Bool) (there : slice_get w.nodes n ≡ Some node) (at : slice_get v.nodes n ≡ Some y) (s : Stands node y) (same_stores : y.progress.stores ≡ node.progress.stores) (is_one : node.node.kind ≡ zip_node extend) (fits : length node.progress.stores ≡ length node.node.inputs)
      (done : DoneFits w n) (h : KeepsZip F w n node extend) where
    back : (b : Pipe) → Enters v n b → (x : Pipe) × Enters w n x × (b.wire.input ≡ x.wire.input) × Grows x b
    back b e =
        let x = turned_from w m other progress at_m b e.0 in (
          x.0,
          (x.1, ap (λ (j : Joins). j.receiver) (sym x.2.joins) ∙ e.1),
          ap (λ (j : Joins). j.input) x.2.joins,
          record { more = []; rows = (λ i. rows_in_order (take (x.2.next i) (x.2.got i))) ∙ sym (append-nil (rows_read x.0)); on = complete_turned F w m other progress o shut at_m x.0 b x.2; none = λ c. refl },
        )

    -- newly complete: all is cut
    module _ (x p : Pipe) (lx : Leaves w n x) (t : Turned m a x p) (new : Newly F w m other progress o shut at_m x p) where
      here : n ≡ m
      here = sym lx.1 ∙ new.from

      same_other : node ≡ other
      same_other = same_node w n node other there (ap (slice_get w.nodes) here ∙ at_m)

      is_zip : other.node.kind ≡ zip_node extend
      is_zip = ap (λ (z : Node). z.node.kind) (sym same_other) ∙ is_one

      lx_m : Leaves w m x
      lx_m = (lx.0, new.from)

      used : HasNoUse w n → ⊥
      used (inl (z, at_z, over)) = let same = same_node w n node z there at_z in not_over z.node.kind extend z.progress.booked (ap (λ (u : Node). u.node.kind) (sym same) ∙ is_one) over
      used (inr (z, cz, from, each)) = let no : false ≡ true = sym (λ i. new.dropped i || new.reader i) ∙ each x lx.0 lx.1 in cc

      one_reader : length (given_at w m).outputs ≡ 1
      one_reader = subst (λ k. HasReaders k (length (given_at w m).outputs)) is_zip (has_readers F w o.known.facts m other at_m)

      told : (all_done (given_at w m).inputs ≡ true) × (over_tests (heads_of w m other) (given_at w m) ≡ true)
      told = by (kept_at (given_at w m).outputs (zip_answer (heads_of w m other) (given_at w m)).outputs x.wire.port x.wire.receive_state x.wire.send_state (state_out extend is_zip x lx_m) new.sent (ap (λ (z : Sides). is_done (get_or z.outputs x.wire.port x.wire.send_state)) (sym (says extend is_zip)) ∙ new.said))
        where
          of : (is_done (first_port (given_at w m).outputs) ≡ true) ⊎ (all_done (given_at w m).inputs ≡ true) × (over_tests (heads_of w m other) (given_at w m) ≡ true) → (all_done (given_at w m).inputs ≡ true) × (over_tests (heads_of w m other) (given_at w m) ≡ true)
          of (inl d) =
              let same = (only_port (given_at w m).outputs x.wire.port x.wire.receive_state one_reader (state_out extend is_zip x lx_m)).0 in
              absurd (let no : true ≡ false = sym d ∙ ap is_done same ∙ new.reader in cc)
          of (inr r) = r

          by : (is_done x.wire.receive_state ≡ true) ⊎ (is_done (get_or (zip_answer (heads_of w m other) (given_at w m)).outputs x.wire.port x.wire.send_state) ≡ true) → (all_done (given_at w m).inputs ≡ true) × (over_tests (heads_of w m other) (given_at w m) ≡ true)
          by (inl d) = absurd (let no : true ≡ false = sym d ∙ new.reader in cc)
          by (inr now) = of (over_means (heads_of w m other) (given_at w m) (out_over (heads_of w m other) (given_at w m) x.wire.port x.wire.send_state new.sent now))

      all_sent : (z : Pipe) → Enters w n z → is_done z.wire.send_state ≡ true
      all_sent z e = all_done_at (given_at w m).inputs z.wire.input z.wire.send_state told.0 (ap (λ k. slice_get (given_at w k).inputs z.wire.input) (sym here ∙ sym e.1) ∙ given_input F w o.known.facts z e.0)

      all_complete : AllComplete w n
      all_complete z e = by (sent_cases F w m other progress o shut at_m booked n z e (all_sent z e) done)
        where
          by : IsComplete z ⊎ HasNoUse w n → IsComplete z
          by (inl c) = c
          by (inr none) = absurd (used none)

      abbrev qs : List Pipe
      qs = pipes_in w n

      hs_are : heads_of w n node ≡ heads extend node.progress.booked qs
      hs_are =
          heads_over w n node (zip_node extend) is_one
          ∙ ap (heads_by extend node.progress.booked) (stored_are qs node.progress.stores (fits ∙ sym (inputs_long F w o.known.facts n node there)) (λ k q e. let z = enters F w o.known.facts n k q e in (by k q z.1 (h.stores q z.0), all_sent q z.0 ∙ sym (all_complete q z.0))))
        where
          by : (k : ℕ) (q : Pipe) → q.wire.input ≡ k → (stored_rows (get_or node.progress.stores q.wire.input []) ≡ rows_read q) ⊎ (r : Pipe) × Leaves w n r × IsTrue r.is_dropped → stored_rows (get_or node.progress.stores k []) ≡ rows_read q
          by k q at_k (inl stored) = ap (λ j. stored_rows (get_or node.progress.stores j [])) (sym at_k) ∙ stored
          by k q at_k (inr (r, l, gone)) = let same = one_output F w n node extend o.known there is_one r x l lx in absurd (let no : true ≡ false = sym gone ∙ ap (λ (z : Pipe). z.is_dropped) same ∙ new.dropped in cc)

      tests : over_tests (heads extend node.progress.booked qs) (given_at w m) ≡ true
      tests = (λ i. over_tests (sym hs_are i) (given_at w m)) ∙ (λ i. over_tests (heads_of w (here i) (same_other i)) (given_at w m)) ∙ told.1

      among : (q : Pipe) → Enters w n q → Contains qs q
      among q e = subst (λ k. Contains (pipes_in w k) q) e.1 (contains_of (pipes_in w q.wire.receiver) q.wire.input q (input_pipe F w o.known.facts q e.0))

      entered : (q : Pipe) → Contains qs q → Enters w n q
      entered q d =
          let into = was_kept (λ (z : Pipe). nat_eq z.wire.receiver n) q w.pipes (ordered (λ (a b : Pipe). nat_lt a.wire.input b.wire.input) q (kept (λ (z : Pipe). nat_eq z.wire.receiver n) w.pipes) d) in
          (into.0, same_number q.wire.receiver n into.1)

      was_cut : AllCut w n extend node.progress.booked
      was_cut =
          record {
            complete = all_complete;
            no_more = λ q e. no_more extend node.progress.booked qs tests q (among q e);
            reached = let q = one_ended extend node.progress.booked qs tests in (q.0, entered q.0 q.1, q.2);
          }

      all_cut : AllCut v n extend y.progress.booked
      all_cut = let b = s.booked in all_on F w v n node y extend o.known kv shape there at s.node back node.progress.booked y.progress.booked (omega (arith, b)) was_cut

    lost_on : (p : Pipe) × Leaves w n p × IsTrue p.is_dropped → (p : Pipe) × Leaves v n p × IsTrue p.is_dropped
    lost_on (p, l, gone) = let t = turns m a p in (written_pipe m a p, (contains_map (written_pipe m a) p w.pipes l.0, ap (λ (j : Joins). j.sender) t.joins ∙ l.1), t.dropped ∙ gone)

    pub zip_turned : KeepsZip F v n y extend
    zip_turned =
        let sent = s.sent in
        let b = s.booked in
        zip_goes F w v n node y extend o.known kv shape there at s.node back h h.before (λ k less. refl) h.from_none (omega (arith, sent)) (omega (arith, b)) (ap h.before sent ∙ h.up_to_booked ∙ sym b)
        (λ k past less. absurd (omega (arith, past, less, sent)))
        (λ p k rs l e. let x = turned_from w m other progress at_m p l.0 in inl (x.0, (x.1, ap (λ (j : Joins). j.sender) (sym x.2.joins) ∙ l.1), ap (λ zs. slice_get zs k) (sym x.2.got) ∙ e))
        (λ q c e. inl c)
        (λ p l c. let x = turned_from w m other progress at_m p l.0 in by x.0 p (x.1, ap (λ (j : Joins). j.sender) (sym x.2.joins) ∙ l.1) x.2 (newly F w m other progress o shut at_m x.0 p x.1 x.2 c))
        stores (λ on. absurd (let no : false ≡ true = sym shut ∙ on in cc))
      where
        by : (x p : Pipe) → Leaves w n x → Turned m a x p → IsComplete x ⊎ Newly F w m other progress o shut at_m x p → ((z : Pipe) × Leaves w n z × IsComplete z) ⊎ AllCut v n extend y.progress.booked
        by x p l t (inl was) = inl (x, l, was)
        by x p l t (inr new) = inr (all_cut x p l t new)

        stores : StoresRead v n y
        stores q e = let x = turned_from w m other progress at_m q e.0 in of x.0 x.2 (h.stores x.0 (x.1, ap (λ (j : Joins). j.receiver) (sym x.2.joins) ∙ e.1))
          where
            of : (x : Pipe) → Turned m a x q → (stored_rows (get_or node.progress.stores x.wire.input []) ≡ rows_read x) ⊎ (p : Pipe) × Leaves w n p × IsTrue p.is_dropped → (stored_rows (get_or y.progress.stores q.wire.input []) ≡ rows_read q) ⊎ (p : Pipe) × Leaves v n p × IsTrue p.is_dropped
            of x t (inl stored) = let at_x : q.wire.input ≡ x.wire.input = ap (λ (j : Joins). j.input) t.joins in inl ((λ i. stored_rows (get_or (same_stores i) (at_x i) [])) ∙ stored ∙ sym (λ i. rows_in_order (take (t.next i) (t.got i))))
            of x t (inr lost) = inr (lost_on lost)
