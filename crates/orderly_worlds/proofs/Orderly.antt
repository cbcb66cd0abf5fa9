-- What every reached world keeps of its pipes beside the facts: while a phase is open both ends agree on what is done, a pipe whose reader was done first is unread, and one that is complete was read to its end.
use Rattle.std.proofs.Common.{◌≡◌, ℕ, zero, suc, ◌-◌, ◌⊎◌, Bool, true, false, cond, List, [], ◌∷◌, length, Some, refl, sym, ap, subst, ◌∙◌, inl, inr, arith}
use Rattle.std.specs.Prelude.{Contains, get_or, nat_eq, option_map, slice_get, ◌&&◌, ◌||◌}
use Rattle.std.specs.List.{list_all}
use Rattle.std.proofs.lemmas.Option.{slice_get-map}
use Rattle.ps_frame.specs.Functions.{Functions}
use Rattle.ps_frame.specs.Tables.{Row}
use Rattle.ps_meaning.specs.Shape.{PhysicalKind, multiplexer}
use Rattle.ps_ports.specs.Ports.{Sides, all_blocked, all_done, first_port, is_done, kept_done, repeated}
use Rattle.ps_ports.specs.Wires.{Wire}
use Rattle.ps_ports.specs.declared.port_state.PortState.{PortState}
use Rattle.ps_ports.specs.declared.port_state.PortState.TheVariants as port
use Rattle.ps_turns.specs.Heads.{Head}
use Rattle.ps_turns.specs.Progress.{Progress, is_multiplexer}
use Rattle.ps_turns.specs.Updates.{answer_by, multiplexer_answer, port_answers, undone_empty}
use Rattle.ps_world.specs.Facts.{Joins}
use Rattle.ps_world.specs.Laws.{EndsAgree}
use Rattle.ps_world.specs.Updates.{empty_outs, given_at}
use Rattle.ps_world.specs.World.{Node, Pipe, World, heads_of, is_drained, multiplexes, pipes_out, wires_of}
use Rattle.world_claims.specs.Numbering.{Known}
use Rattle.world_facts.proofs.Slots.{set_here}
use Rattle.world_laws.proofs.Agree.{from_map}
use Rattle.world_laws.proofs.InOrder.{contains_map}
use Rattle.world_laws.proofs.PassingPorts.{same_number}
use Rattle.family_pipes.proofs.Complete.{complete, in_no_phase, read_out, whole}
use Rattle.family_pipes.proofs.Inputs.{none_past}
use Rattle.world_families.proofs.Members.{nothing_is}
use Rattle.world_families.specs.Work.{IsComplete}
use Rattle.orderly_worlds.proofs.Goes.{Goes, GoesOn}
use Rattle.orderly_worlds.proofs.PortPipes.{given_output, port_pipe}
use Rattle.orderly_worlds.proofs.Turned.{ReadFirst, Turned, answer, kept_cases, turned, turned_from}

pub record Orderly (F : Functions) (w : World) : Type 0 where
  pub known : Known F w
  pub agree : w.is_open ≡ true → EndsAgree w
  pub unread : (p : Pipe) → Contains w.pipes p → ReadFirst p
  pub read : (p : Pipe) → Contains w.pipes p → IsComplete p → p.next ≡ length p.got

-- A STEP OF A PHASE
pub complete_before : (Takes Musts : Pipe → Type 0) (x y : Pipe) → Goes Takes Musts x y → IsComplete y → IsComplete x
complete_before Takes Musts x y g c = let h = whole y c in complete x (record { done = ap (λ (u : Wire). is_done u.send_state) (sym g.wire) ∙ h.done; dropped = by x.is_dropped refl h.dropped; unread = sym g.unread ∙ h.unread })
  where
    by : (b : Bool) → x.is_dropped ≡ b → y.is_dropped ≡ false → x.is_dropped ≡ false
    by false e d = e
    by true e d = absurd (let no : true ≡ false = sym (g.kept e) ∙ d in cc)

-- what is complete stays so, and gets and gives nothing more
pub record Rests (x y : Pipe) : Type 0 where
  pub is_complete : IsComplete y
  pub next : y.next ≡ x.next
  pub longer : length y.got ≡ length x.got

pub complete_rests : (F : Functions) (w : World) (Takes Musts : Pipe → Type 0) → Orderly F w → w.is_open ≡ true → ((x : Pipe) → Takes x → (rs : List Row) × (slice_get x.got x.next ≡ Some (Some rs))) → (x y : Pipe) → Contains w.pipes x → Goes Takes Musts x y → IsComplete x → Rests x y
complete_rests F w Takes Musts o begun some x y cx g c =
    let off = in_no_phase F w x o.known cx c in
    let h = whole x c in
    record {
      is_complete = complete y (record { done = ap (λ (u : Wire). is_done u.send_state) g.wire ∙ h.done; dropped = by y.is_dropped refl off h.dropped; unread = g.unread ∙ h.unread });
      next = next g.next;
      longer = longer off h.done g.longer;
    }
  where
    by : (b : Bool) → y.is_dropped ≡ b → x.in_phase ≡ false → x.is_dropped ≡ false → y.is_dropped ≡ false
    by false e off d = e
    by true e off d = of (g.lost e)
      where
        of : (x.is_dropped ≡ true) ⊎ (x.in_phase ≡ true) → y.is_dropped ≡ false
        of (inl gone) = absurd (let no : true ≡ false = sym gone ∙ d in cc)
        of (inr on) = absurd (let no : true ≡ false = sym on ∙ off in cc)

    next : (y.next ≡ x.next) ⊎ (y.next ≡ suc x.next) × Takes x → y.next ≡ x.next
    next (inl e) = e
    next (inr (e, t)) =
        let s = some x t in
        let past = none_past x.got x.next (let all = o.read x cx c in omega (arith, all)) in
        absurd (nothing_is (Some s.0) (sym past ∙ s.1))

    longer : x.in_phase ≡ false → is_done x.wire.send_state ≡ true → (length y.got ≡ length x.got) ⊎ (x.in_phase ≡ true) ⊎ (is_done x.wire.receive_state ≡ false) → length y.got ≡ length x.got
    longer off d (inl e) = e
    longer off d (inr (inl on)) = absurd (let no : true ≡ false = sym on ∙ off in cc)
    longer off d (inr (inr open_still)) = absurd (let no : true ≡ false = sym d ∙ o.agree begun x.wire (contains_map (λ (p : Pipe). p.wire) x w.pipes cx) ∙ open_still in cc)

pub step_orderly : (F : Functions) (w v : World) (Takes Musts : Pipe → Type 0) → Orderly F w → Known F v → w.is_open ≡ true → ((x : Pipe) → Takes x → (rs : List Row) × (slice_get x.got x.next ≡ Some (Some rs))) → GoesOn Takes Musts w v → Orderly F v
step_orderly F w v Takes Musts o known begun some goes =
    record {
      known = known;
      agree = λ on p c.
          let y = from_map (λ (x : Pipe). x.wire) p v.pipes c in
          let x = goes y.0 y.1 in
          let same : x.0.wire ≡ p = sym x.2.wire ∙ y.2 in
          o.agree begun p (subst (Contains (wires_of w)) same (contains_map (λ (z : Pipe). z.wire) x.0 w.pipes x.1));
      unread = λ y c d.
          let x = goes y c in
          let before = o.unread x.0 x.1 (ap (λ (u : Wire). is_done u.receive_state) (sym x.2.wire) ∙ d) in
          (λ i. is_done (x.2.wire i).send_state || x.2.unread i) ∙ before;
      read = λ y c is.
          let x = goes y c in
          let was = complete_before Takes Musts x.0 y x.2 is in
          let r = complete_rests F w Takes Musts o begun some x.0 y x.1 x.2 was in
          r.next ∙ o.read x.0 x.1 was ∙ sym r.longer;
    }

-- AN UPDATE OF A MULTIPLEXER: a port is newly done where its reader is, or where it is empty
pub all_done_at : (os : List PortState) (k : ℕ) (old : PortState) → all_done os ≡ true → slice_get os k ≡ Some old → is_done old ≡ true
all_done_at [] k old all at = absurd (nothing_is old at)
all_done_at (o ∷ os) k old all at = by k (is_done o) refl all at (λ j a b. all_done_at os j old a b)
  where
    by : (k : ℕ) (b : Bool) → is_done o ≡ b → (b && list_all is_done os) ≡ true → slice_get (o ∷ os) k ≡ Some old → ((j : ℕ) → all_done os ≡ true → slice_get os j ≡ Some old → is_done old ≡ true) → is_done old ≡ true
    by zero true e all at rest = let q : Some o ≡ Some old = at in let same : o ≡ old = cc in ap is_done (sym same) ∙ e
    by (suc k) true e all at rest = rest k all at
    by k false e all at rest = absurd (let no : false ≡ true = all in cc)

abbrev DoneOrEmpty : PortState → Bool → Type 0
DoneOrEmpty old e = (is_done old ≡ true) ⊎ (e ≡ true)

or_two : (a b : Bool) → (a || b) ≡ true → (a ≡ true) ⊎ (b ≡ true)
or_two true b e = inl refl
or_two false b e = inr e

and_two : (a b : Bool) → (a && b) ≡ true → (a ≡ true) × (b ≡ true)
and_two true b e = (refl, e)
and_two false b e = absurd (let no : false ≡ true = e in cc)

undone_at : (es : List Bool) (os : List PortState) (k : ℕ) (old : PortState) (e : Bool) → undone_empty es os ≡ true → slice_get os k ≡ Some old → slice_get es k ≡ Some e → DoneOrEmpty old e
undone_at es [] k old e all at empty = absurd (nothing_is old at)
undone_at [] (o ∷ os) k old e all at empty = absurd (nothing_is e empty)
undone_at (d ∷ es) (o ∷ os) zero old e all at empty =
    let p : Some o ≡ Some old = at in
    let q : Some d ≡ Some e = empty in
    let a : o ≡ old = cc in
    let b : d ≡ e = cc in
    subst (λ x. DoneOrEmpty old x) b (subst (λ x. DoneOrEmpty x d) a (or_two (is_done o) d (and_two (is_done o || d) (undone_empty es os) all).0))
undone_at (d ∷ es) (o ∷ os) (suc k) old e all at empty = undone_at es os k old e (and_two (is_done o || d) (undone_empty es os) all).1 at empty

port_done : (s : PortState) (es : List Bool) (os : List PortState) (k : ℕ) (old d : PortState) (e : Bool) → slice_get os k ≡ Some old → slice_get es k ≡ Some e → is_done d ≡ false → is_done (get_or (kept_done os (port_answers s es os)) k d) ≡ true → DoneOrEmpty old e
port_done s es [] k old d e at empty none now = absurd (nothing_is old at)
port_done s [] (o ∷ os) k old d e at empty none now = absurd (nothing_is e empty)
port_done s (c ∷ es) (o ∷ os) zero old d e at empty none now =
    let p : Some o ≡ Some old = at in
    let q : Some c ≡ Some e = empty in
    let a : o ≡ old = cc in
    let b : c ≡ e = cc in
    subst (λ x. DoneOrEmpty old x) b (subst (λ x. DoneOrEmpty x c) a (by (kept_cases o (cond c s port.Ready) now)))
  where
    of_empty : (c : Bool) → is_done (cond c s port.Ready) ≡ true → c ≡ true
    of_empty true h = refl
    of_empty false h = absurd (let no : false ≡ true = h in cc)

    by : (is_done o ≡ true) ⊎ (is_done (cond c s port.Ready) ≡ true) → DoneOrEmpty o c
    by (inl h) = inl h
    by (inr h) = inr (of_empty c h)
port_done s (c ∷ es) (o ∷ os) (suc k) old d e at empty none now = port_done s es os k old d e at empty none now

abbrev all_ends : Sides → Sides
all_ends given = record { inputs = port.Done ∷ []; outputs = repeated port.Done given.outputs }

abbrev some_ends : List Bool → Sides → Sides
some_ends es given = record { inputs = cond (all_blocked given.outputs) port.Blocked port.Ready ∷ []; outputs = port_answers (first_port given.inputs) es given.outputs }

multiplexer_done : (es : List Bool) (given : Sides) (k : ℕ) (old d : PortState) (e : Bool) → slice_get given.outputs k ≡ Some old → slice_get es k ≡ Some e → is_done d ≡ false → is_done (get_or (kept_done given.outputs (multiplexer_answer es given).outputs) k d) ≡ true → DoneOrEmpty old e
multiplexer_done es given k old d e at empty none now = by (all_done given.outputs || (all_done given.inputs && undone_empty es given.outputs)) refl now
  where
    of : (all_done given.outputs ≡ true) ⊎ ((all_done given.inputs && undone_empty es given.outputs) ≡ true) → DoneOrEmpty old e
    of (inl h) = inl (all_done_at given.outputs k old h at)
    of (inr h) = undone_at es given.outputs k old e (and_two (all_done given.inputs) (undone_empty es given.outputs) h).1 at empty

    by : (b : Bool) → (all_done given.outputs || (all_done given.inputs && undone_empty es given.outputs)) ≡ b → is_done (get_or (kept_done given.outputs (cond b (all_ends given) (some_ends es given)).outputs) k d) ≡ true → DoneOrEmpty old e
    by true h told = of (or_two (all_done given.outputs) (all_done given.inputs && undone_empty es given.outputs) h)
    by false h told = port_done (first_port given.inputs) es given.outputs k old d e at empty none told

-- AN UPDATE
module _ (F : Functions) (w : World) (m : ℕ) (other : Node) (progress : Progress) (o : Orderly F w) (shut : w.is_open ≡ false) (at : slice_get w.nodes m ≡ Some other) where
  abbrev v : World
  v = turned w m other progress at

  abbrev a : Sides
  a = answer w m other progress at

  pub complete_turned : (x y : Pipe) → Turned m a x y → IsComplete x → IsComplete y
  complete_turned x y t c = let h = whole x c in complete y (record { done = t.sent_on h.done; dropped = t.dropped ∙ h.dropped; unread = t.still_read h.done h.unread })

  -- what is newly complete was sent by the node, and its reader isn't done
  pub record Newly (x y : Pipe) : Type 0 where
    pub from : x.wire.sender ≡ m
    pub said : is_done (get_or a.outputs x.wire.port x.wire.send_state) ≡ true
    pub sent : is_done x.wire.send_state ≡ false
    pub reader : is_done x.wire.receive_state ≡ false
    pub dropped : x.is_dropped ≡ false

  pub newly : (x y : Pipe) → Contains w.pipes x → Turned m a x y → IsComplete y → IsComplete x ⊎ Newly x y
  newly x y cx t c = let h = whole y c in by h.dropped (t.unread h.unread) (is_done x.wire.send_state) refl (t.sent_new h.done)
    where
      undone : x.is_unread ≡ false → is_done x.wire.send_state ≡ false → (b : Bool) → is_done x.wire.receive_state ≡ b → is_done x.wire.receive_state ≡ false
      undone u s false e = e
      undone u s true e = absurd (let no : false ≡ true = sym (λ i. s i || u i) ∙ o.unread x cx e in cc)

      by : y.is_dropped ≡ false → x.is_unread ≡ false → (b : Bool) → is_done x.wire.send_state ≡ b → (is_done x.wire.send_state ≡ true) ⊎ (x.wire.sender ≡ m) × (is_done (get_or a.outputs x.wire.port x.wire.send_state) ≡ true) → IsComplete x ⊎ Newly x y
      by d u true e h = inl (complete x (record { done = e; dropped = sym t.dropped ∙ d; unread = u }))
      by d u false e (inl was) = absurd (let no : true ≡ false = sym was ∙ e in cc)
      by d u false e (inr (from, said)) = inr (record { from = from; said = said; sent = e; reader = undone u e (is_done x.wire.receive_state) refl; dropped = sym t.dropped ∙ d })

  answers_by : (kind : PhysicalKind) → is_multiplexer kind ≡ true → (hs : List Head) (es : List Bool) (given : Sides) → (answer_by w.options kind progress hs es given).outputs ≡ (multiplexer_answer es given).outputs
  answers_by multiplexer e hs es given = refl
  answers_by kind e hs es given = absurd (let no : false ≡ true = e in cc)

  read_to_end : Known F v → (x y : Pipe) → Contains w.pipes x → Contains v.pipes y → Turned m a x y → IsComplete y → Newly x y → (b : Bool) → multiplexes (slice_get v.nodes y.wire.sender) ≡ b → y.next ≡ length y.got
  read_to_end kv x y cx cy t c n false single = let few = read_out F v y kv cy single c in let some = (kv.facts.pipes y cy).taken in omega arith
  read_to_end kv x y cx cy t c n true mux = by told
    where
      sender : y.wire.sender ≡ m
      sender = ap (λ (j : Joins). j.sender) t.joins ∙ n.from

      is_mux : is_multiplexer other.node.kind ≡ true
      is_mux = sym (ap (λ k. multiplexes (slice_get v.nodes k)) sender ∙ ap multiplexes (set_here w.nodes m other (record other { progress = progress }) at)) ∙ mux

      outputs : a.outputs ≡ kept_done (given_at w m).outputs (multiplexer_answer (empty_outs w m) (given_at w m)).outputs
      outputs = ap (kept_done (given_at w m).outputs) (answers_by other.node.kind is_mux (heads_of w m other) (empty_outs w m) (given_at w m))

      reader : slice_get (given_at w m).outputs x.wire.port ≡ Some x.wire.receive_state
      reader = ap (λ k. slice_get (given_at w k).outputs x.wire.port) (sym n.from) ∙ given_output F w o.known.facts x cx

      empty : slice_get (empty_outs w m) x.wire.port ≡ Some (is_drained x)
      empty = ap (λ k. slice_get (empty_outs w k) x.wire.port) (sym n.from) ∙ slice_get-map is_drained (pipes_out w x.wire.sender) x.wire.port ∙ ap (option_map is_drained) (port_pipe F w o.known.facts x cx)

      told : DoneOrEmpty x.wire.receive_state (is_drained x)
      told = multiplexer_done (empty_outs w m) (given_at w m) x.wire.port x.wire.receive_state x.wire.send_state (is_drained x) reader empty n.sent (ap (λ os. is_done (get_or os x.wire.port x.wire.send_state)) (sym outputs) ∙ n.said)

      by : DoneOrEmpty x.wire.receive_state (is_drained x) → y.next ≡ length y.got
      by (inl d) = absurd (let no : true ≡ false = sym d ∙ n.reader in cc)
      by (inr e) =
          let none : nat_eq (length x.got - x.next) 0 ≡ true = sym (ap (λ b. b || nat_eq (length x.got - x.next) 0) n.dropped) ∙ e in
          let left = same_number (length x.got - x.next) 0 none in
          let some = (o.known.facts.pipes x cx).taken in
          let all : x.next ≡ length x.got = omega arith in
          t.next ∙ all ∙ ap length (sym t.got)

  pub turn_orderly : Known F v → Orderly F v
  turn_orderly kv =
      record {
        known = kv;
        agree = λ on. absurd (let no : false ≡ true = sym shut ∙ on in cc);
        unread = λ y c. let x = turned_from w m other progress at y c in x.2.read_first (o.unread x.0 x.1);
        read = λ y c is. let x = turned_from w m other progress at y c in by x.0 y x.1 c x.2 is (newly x.0 y x.1 x.2 is);
      }
    where
      by : (x y : Pipe) → Contains w.pipes x → Contains v.pipes y → Turned m a x y → IsComplete y → IsComplete x ⊎ Newly x y → y.next ≡ length y.got
      by x y cx cy t c (inl was) = t.next ∙ o.read x cx was ∙ ap length (sym t.got)
      by x y cx cy t c (inr n) = read_to_end kv x y cx cy t c n (multiplexes (slice_get v.nodes y.wire.sender)) refl
