-- An equi join is updated itself: it builds, probes once its right input is done, and is spent once its left input is done and it gave all.
use Rattle.std.proofs.Common.{◌≡◌, ℕ, ◌<◌, ◌⊎◌, Bool, true, false, cond, List, [], ◌∷◌, length, Option, Some, None, refl, sym, ap, subst, ◌∙◌, inl, inr, arith}
use Rattle.std.specs.Prelude.{Contains, IsTrue, get_or, nat_eq, not, slice_get, ◌&&◌, ◌||◌}
use Rattle.std.proofs.lemmas.Bool.Decides.{nat_tests}
use Rattle.ps_frame.specs.Functions.{Functions}
use Rattle.ps_frame.specs.Tables.{Row}
use Rattle.ps_meaning.specs.Shape.{PhysicalKind, equi_join}
use Rattle.ps_meaning.specs.Sound.{HasInputs, HasReaders}
use Rattle.ps_meaning.specs.Steps.{JoinStep}
use Rattle.ps_ports.specs.Ports.{Sides, first_port, is_done, is_ready, kept_done, kept_state, second_port}
use Rattle.ps_ports.specs.declared.port_state.PortState.{PortState}
use Rattle.ps_ports.specs.declared.port_state.PortState.TheVariants as port
use Rattle.ps_turns.specs.Claims.{owes_last}
use Rattle.ps_turns.specs.Tasks.{Piece}
use Rattle.ps_turns.specs.Progress.{Progress, Stage, giving, is_giving, is_spent, is_taking, spent, taking}
use Rattle.ps_turns.specs.Updates.{Makes, Turns, answer_by, has_given_all, join_answer, next_stage, stage_after}
use Rattle.ps_world.specs.Facts.{HasNoUse, Joins, is_over_slice, joins_of}
use Rattle.ps_world.specs.Updates.{empty_outs, given_at, received, sent}
use Rattle.ps_world.specs.World.{Node, Pipe, World, heads_of, running, schemas_for, shape_of}
use Rattle.world_claims.specs.Numbering.{Known, keeps_slots}
use Rattle.world_facts.proofs.CutOff.{both_true}
use Rattle.world_facts.proofs.Placing.{has_inputs, has_readers}
use Rattle.world_laws.proofs.Agree.{from_map}
use Rattle.world_laws.proofs.InOrder.{contains_map}
use Rattle.world_families.specs.Joins.{BuildsFirst, HasAllRight, HasRight, HoldsJoin}
use Rattle.world_families.specs.Keepers.{slots_at}
use Rattle.world_families.specs.Work.{AllComplete, Enters, IsComplete, Leaves}
use Rattle.family_keeps.proofs.Done.{DoneFits, sent_cases}
use Rattle.family_pipes.proofs.Inputs.{none_past, past_none, same_at}
use Rattle.join_run_laws.proofs.JoinInputs.{JoinAt, same_left, same_right}
use Rattle.join_run_laws.proofs.JoinQuiet.{AllRest, Given, given_still, quiet_join, right_still}
use Rattle.join_run_laws.proofs.JoinStill.{one_of}
use Rattle.orderly_worlds.proofs.Orderly.{Newly, Orderly, complete_turned, newly}
use Rattle.orderly_worlds.proofs.PortPipes.{given_input, given_output}
use Rattle.orderly_worlds.proofs.Turned.{Turned, answer, kept_cases, turned, turned_from, turns, written_pipe}
use Rattle.orderly_worlds.proofs.Says.{reader_pipe}
use Rattle.streaming_ports.proofs.OnePort.{one_state, some_state}

-- a join is spent once it gave all, or once nobody wants what it gives
pub record KeepsJoin (F : Functions) (w : World) (n : ℕ) (node : Node) (j : JoinStep) : Type 0 where
  pub holds : HoldsJoin F w n node j
  pub spent_gave : IsTrue (is_spent node.progress.stage) → Given w n node j ⊎ ((p : Pipe) → Leaves w n p → IsTrue (p.is_dropped || is_done p.wire.receive_state))

-- STATES
turns_joins : (m : ℕ) (a : Sides) (x : Pipe) → joins_of (written_pipe m a x) ≡ joins_of x
turns_joins m a x = (turns m a x).joins

-- what a reader says of a pipe
receive_of : (m : ℕ) (a : Sides) (x : Pipe) → x.wire.receiver ≡ m → (b : Bool) → nat_eq x.wire.receiver m ≡ b → b ≡ true → (written_pipe m a x).wire.receive_state ≡ kept_state x.wire.receive_state (get_or a.inputs x.wire.input x.wire.receive_state)
receive_of m a x r b e t = rw (e ∙ t) (by (nat_eq x.wire.sender m))
  where
    by : (c : Bool) → (cond c (sent (get_or a.outputs x.wire.port x.wire.send_state) (received (get_or a.inputs x.wire.input x.wire.receive_state) x)) (received (get_or a.inputs x.wire.input x.wire.receive_state) x)).wire.receive_state ≡ kept_state x.wire.receive_state (get_or a.inputs x.wire.input x.wire.receive_state)
    by true = refl
    by false = refl

-- blocked is never ready
kept_blocked : (old d : PortState) → is_ready (kept_state old d) ≡ true → is_ready d ≡ true
kept_blocked port.Done d e = absurd (let no : false ≡ true = e in cc)
kept_blocked port.Ready d e = e
kept_blocked port.Blocked d e = e

first_blocked : (ss : List PortState) (old : PortState) → 0 < length ss → is_ready (kept_state old (get_or (kept_done ss (port.Blocked ∷ port.Ready ∷ [])) 0 old)) ≡ false
first_blocked [] old e = absurd (omega arith)
first_blocked (s ∷ ss) old e = by old s
  where
    by : (o s : PortState) → is_ready (kept_state o (kept_state s port.Blocked)) ≡ false
    by port.Done s = refl
    by port.Ready port.Done = refl
    by port.Ready port.Ready = refl
    by port.Ready port.Blocked = refl
    by port.Blocked port.Done = refl
    by port.Blocked port.Ready = refl
    by port.Blocked port.Blocked = refl

done_said : (o s : PortState) → is_done (kept_state o (kept_state s port.Done)) ≡ true
done_said port.Done s = refl
done_said port.Ready port.Done = refl
done_said port.Ready port.Ready = refl
done_said port.Ready port.Blocked = refl
done_said port.Blocked port.Done = refl
done_said port.Blocked port.Ready = refl
done_said port.Blocked port.Blocked = refl

first_done : (ss : List PortState) (d old : PortState) → 0 < length ss → is_done (kept_state old (get_or (kept_done ss (port.Done ∷ d ∷ [])) 0 old)) ≡ true
first_done [] d old e = absurd (omega arith)
first_done (s ∷ ss) d old e = done_said old s

second_done : (ss : List PortState) (d old : PortState) → 1 < length ss → is_done (kept_state old (get_or (kept_done ss (d ∷ port.Done ∷ [])) 1 old)) ≡ true
second_done [] d old e = absurd (omega arith)
second_done (s ∷ []) d old e = absurd (omega arith)
second_done (s ∷ t ∷ ss) d old e = done_said old t

-- an output is newly done where its rule says so
out_done : (o s : PortState) → is_done o ≡ false → is_done (kept_state o s) ≡ true → is_done s ≡ true
out_done port.Done s a b = absurd (let no : true ≡ false = a in cc)
out_done port.Ready s a b = b
out_done port.Blocked s a b = b

first_is : (ss : List PortState) (s : PortState) → slice_get ss 0 ≡ Some s → first_port ss ≡ s
first_is [] s e = absurd (let none : None ≡ Some s = e in cc)
first_is (x ∷ ss) s e = let q : Some x ≡ Some s = e in cc

second_is : (ss : List PortState) (s : PortState) → slice_get ss 1 ≡ Some s → second_port ss ≡ s
second_is [] s e = absurd (let none : None ≡ Some s = e in cc)
second_is (x ∷ []) s e = absurd (let none : None ≡ Some s = e in cc)
second_is (x ∷ y ∷ ss) s e = let q : Some y ≡ Some s = e in cc

abbrev stage_is : Stage → Stage → Type 0
stage_is a b = a ≡ b

not_is : (b : Bool) → not b ≡ true → b ≡ false
not_is true e = absurd (let never : false ≡ true = e in cc)
not_is false e = refl

second : (a b : Bool) → b ≡ true → (a || b) ≡ true
second true b e = refl
second false b e = e

or_on : (a b c d : Bool) → (a ≡ true → c ≡ true) → (b ≡ true → d ≡ true) → (a || b) ≡ true → (c || d) ≡ true
or_on true b c d f g e = ap (λ z. z || d) (f refl)
or_on false true c d f g e = second c d (g refl)
or_on false false c d f g e = absurd (let no : false ≡ true = e in cc)

same_true : (a b : ℕ) → a ≡ b → nat_eq a b ≡ true
same_true a b e = grind (arith, nat_tests)

-- STAGES
-- why it gives, and why it is spent
gives_why : (st : Stage) (d r a : Bool) → is_giving (next_stage st d r a) ≡ true → (st ≡ giving) ⊎ (st ≡ taking) × (d ≡ false) × (r ≡ true)
gives_why st true r a e = absurd (let no : false ≡ true = e in cc)
gives_why taking false true a e = inr (refl, refl, refl)
gives_why taking false false a e = absurd (let no : false ≡ true = e in cc)
gives_why giving false r a e = inl refl
gives_why spent false r a e = absurd (let no : false ≡ true = e in cc)

spent_why : (st : Stage) (d r a : Bool) → is_spent (next_stage st d r a) ≡ true → (d ≡ true) ⊎ ((st ≡ giving) × (a ≡ true)) ⊎ (st ≡ spent)
spent_why st true r a e = inl refl
spent_why taking false true a e = absurd (let no : false ≡ true = e in cc)
spent_why taking false false a e = absurd (let no : false ≡ true = e in cc)
spent_why giving false r true e = inr (inl (refl, refl))
spent_why giving false r false e = absurd (let no : false ≡ true = e in cc)
spent_why spent false r a e = inr (inr refl)

takes_why : (st : Stage) (d r a : Bool) → is_taking (next_stage st d r a) ≡ true → st ≡ taking
takes_why st true r a e = absurd (let no : false ≡ true = e in cc)
takes_why taking false r a e = refl
takes_why giving false r true e = absurd (let no : false ≡ true = e in cc)
takes_why giving false r false e = absurd (let no : false ≡ true = e in cc)
takes_why spent false r a e = absurd (let no : false ≡ true = e in cc)

-- what makes nothing of its own keeps all but its stage
turn_stage : (F : Functions) (w : World) (n : ℕ) (node : Node) (j : JoinStep) (progress : Progress) → node.node.kind ≡ equi_join j → Turns F w.options node.node (schemas_for w node) (given_at w n) node.progress progress
    → progress ≡ record node.progress { stage = stage_after w.options (equi_join j) node.progress (given_at w n) }
turn_stage F w n node j progress is (inl t) = t.1 ∙ ap (λ k. record node.progress { stage = stage_after w.options k node.progress (given_at w n) }) is
turn_stage F w n node j progress is (inr t) =
    let m : t.1 ≡ node.progress = subst (λ k. Makes F w.options node.node k (schemas_for w node) node.progress t.1) is t.2 in
    let g : stage_after w.options node.node.kind node.progress (given_at w n) ≡ giving = of (stage_after w.options node.node.kind node.progress (given_at w n)) (both_true (not (is_giving node.progress.stage)) (is_giving (stage_after w.options node.node.kind node.progress (given_at w n))) t.0).1 in
    t.3 ∙ ap (λ (a : Progress). record a { stage = giving }) m ∙ ap (λ st. record node.progress { stage = st }) (sym g) ∙ ap (λ k. record node.progress { stage = stage_after w.options k node.progress (given_at w n) }) is
  where
    of : (st : Stage) → is_giving st ≡ true → st ≡ giving
    of taking e = absurd (let no : false ≡ true = e in cc)
    of giving e = refl
    of spent e = absurd (let no : false ≡ true = e in cc)

module _ (F : Functions) (w : World) (n : ℕ) (node : Node) (j : JoinStep) (o : Orderly F w) (shut : w.is_open ≡ false) (runs : w.ending ≡ running) (there : slice_get w.nodes n ≡ Some node) (is_one : node.node.kind ≡ equi_join j) (progress : Progress)
    (turn : Turns F w.options node.node (schemas_for w node) (given_at w n) node.progress progress) (kv : Known F (turned w n node progress there)) (shape : shape_of (turned w n node progress there) ≡ shape_of w)
    (X : JoinAt F w n node j) (Y : JoinAt F (turned w n node progress there) n (record node { progress = progress }) j) (done : DoneFits w n) (booked : progress.booked ≡ node.progress.booked) (k : KeepsJoin F w n node j) where
  abbrev v : World
  v = turned w n node progress there

  abbrev y : Node
  y = record node { progress = progress }

  abbrev given : Sides
  given = given_at w n

  abbrev D : Bool
  D = is_done (first_port given.outputs)

  abbrev R : Bool
  R = is_done (second_port given.inputs)

  abbrev A : Bool
  A = is_done (first_port given.inputs) && has_given_all w.options (equi_join j) node.progress

  abbrev st : Stage
  st = next_stage node.progress.stage D R A

  is_stage : progress ≡ record node.progress { stage = st }
  is_stage = turn_stage F w n node j progress is_one turn

  stage : progress.stage ≡ st
  stage = ap (λ (a : Progress). a.stage) is_stage

  abbrev said : Sides
  said = join_answer j node.progress st given

  a_inputs : (answer w n node progress there).inputs ≡ kept_done given.inputs said.inputs
  a_inputs = (λ i. kept_done given.inputs (answer_by w.options (is_one i) (is_stage i) (heads_of w n node) (empty_outs w n) given).inputs)

  a_outputs : (answer w n node progress there).outputs ≡ kept_done given.outputs said.outputs
  a_outputs = (λ i. kept_done given.outputs (answer_by w.options (is_one i) (is_stage i) (heads_of w n node) (empty_outs w n) given).outputs)

  two_in : length given.inputs ≡ 2
  two_in = subst (λ k. HasInputs k (length given.inputs)) is_one (has_inputs F w o.known.facts n node there)

  one_out : length given.outputs ≡ 1
  one_out = subst (λ k. HasReaders k (length given.outputs)) is_one (has_readers F w o.known.facts n node there)

  back : AllRest w v
  back z c = let x = turned_from w n node progress there z c in (x.0, x.1, record { joins = x.2.joins; got = x.2.got; next = x.2.next; completes = complete_turned F w n node progress o shut there x.0 z x.2 })

  taken : progress.taken ≡ node.progress.taken
  taken = ap (λ (a : Progress). a.taken) is_stage

  sent_same : progress.sent ≡ node.progress.sent
  sent_same = ap (λ (a : Progress). a.sent) is_stage

  right_on : HasRight node X.right → HasRight y Y.right
  right_on = right_still F w v n node y j o.known kv shape refl X Y back refl (λ e. e) taken sent_same

  -- what the first input is given, and what an output is given
  left_state : slice_get given.inputs 0 ≡ Some X.left.wire.send_state
  left_state = (λ i. slice_get (given_at w (sym X.of.left_enters.0.1 i)).inputs (sym X.of.left_enters.1 i)) ∙ given_input F w o.known.facts X.left X.of.left_enters.0.0

  right_state : slice_get given.inputs 1 ≡ Some X.right.wire.send_state
  right_state = (λ i. slice_get (given_at w (sym X.of.right_enters.0.1 i)).inputs (sym X.of.right_enters.1 i)) ∙ given_input F w o.known.facts X.right X.of.right_enters.0.0

  out_state : (p : Pipe) → Leaves w n p → (p.wire.port ≡ 0) × (given.outputs ≡ p.wire.receive_state ∷ [])
  out_state p l = one_state given.outputs p.wire.port p.wire.receive_state one_out ((λ i. slice_get (given_at w (sym l.1 i)).outputs p.wire.port) ∙ given_output F w o.known.facts p l.0)

  -- nobody wants its rows
  abbrev Unwanted : Type 0
  Unwanted = (p : Pipe) → Leaves w n p → IsTrue (p.is_dropped || is_done p.wire.receive_state)

  no_slice : (kind : PhysicalKind) (b : ℕ) → kind ≡ equi_join j → is_over_slice kind b ≡ true → ⊥
  no_slice kind b e t = let no : false ≡ true = ap (λ k. is_over_slice k b) (sym e) ∙ t in cc

  unused : HasNoUse w n → Unwanted
  unused (inl (z, at, over)) = absurd (let two : Some node ≡ Some z = sym there ∙ at in let is : node ≡ z = cc in no_slice z.node.kind z.progress.booked (ap (λ (u : Node). u.node.kind) (sym is) ∙ is_one) over)
  unused (inr (z, c, from, each)) = λ p l. each p l.0 l.1

  sent_all : (x : Pipe) → Enters w n x → is_done x.wire.send_state ≡ true → IsComplete x ⊎ Unwanted
  sent_all x e d = by (sent_cases F w n node progress o shut there booked n x e d done)
    where
      by : IsComplete x ⊎ HasNoUse w n → IsComplete x ⊎ Unwanted
      by (inl c) = inl c
      by (inr none) = inr (unused none)

  -- ALL RIGHT MORSELS ARE KEPT ONCE THE RIGHT INPUT IS DONE

  -- no piece is out between phases, so that none is awaited
  none_out : (x : Piece) → Contains w.outs x → ⊥
  none_out x c = let at = o.known.facts.at_work x c in let on = (both_true w.is_open _ at.2).0 in let never : true ≡ false = sym on ∙ shut in cc

  all_kept : IsComplete X.right → slots_at node 1 ≡ X.right.got
  all_kept c = same_at (slots_at node 1) X.right.got each
    where
      long : length (slots_at node 1) ≡ length X.right.got
      long =
          let e = (o.known.numbers n node there).slots X.right X.of.right_enters.0.0 X.of.right_enters.0.1 (ap (λ q. keeps_slots q X.right.wire.input) is_one ∙ ap (keeps_slots (equi_join j)) X.of.right_enters.1) in
          ap (λ i. length (get_or node.progress.taken i [])) (sym X.of.right_enters.1) ∙ e ∙ o.read X.right X.of.right_enters.0.0 c

      each : (i : ℕ) → slice_get (slots_at node 1) i ≡ slice_get X.right.got i
      each i = by (slice_get (slots_at node 1) i) refl
        where
          by : (z : Option (Option (List Row))) → slice_get (slots_at node 1) i ≡ z → slice_get (slots_at node 1) i ≡ slice_get X.right.got i
          by None e = e ∙ sym (none_past X.right.got i (let short = past_none (slots_at node 1) i e in omega (arith, short, long)))
          by (Some None) e = absurd (let a = k.holds.keeps_right.awaited runs i e in none_out a.0 a.1)
          by (Some (Some rs)) e = e ∙ sym (k.holds.keeps_right.kept X.right i rs X.of.right_enters.0 X.of.right_enters.1 e).0

  -- an output
  output : (p : Pipe) × Leaves w n p
  output = let a = some_state given.outputs one_out in let z = reader_pipe w n 0 a.0 a.1 in (z.0, (z.1, z.2))

  D_is : (p : Pipe) → Leaves w n p → D ≡ is_done p.wire.receive_state
  D_is p l = ap (λ ss. is_done (first_port ss)) (out_state p l).1

  R_is : R ≡ is_done X.right.wire.send_state
  R_is = ap is_done (second_is given.inputs X.right.wire.send_state right_state)

  L_is : is_done (first_port given.inputs) ≡ is_done X.left.wire.send_state
  L_is = ap is_done (first_is given.inputs X.left.wire.send_state left_state)

  -- a wanted output
  wanted : (p : Pipe) → Leaves w n p → p.is_dropped ≡ false → is_done p.wire.receive_state ≡ false → Unwanted → ⊥
  wanted p l a b none = let never : false ≡ true = sym (λ i. a i || b i) ∙ none p l in cc

  right_now : st ≡ giving → HasRight node X.right
  right_now e = by (gives_why node.progress.stage D R A (ap is_giving e))
    where
      complete_now : D ≡ false → IsComplete X.right ⊎ Unwanted → node.progress.stage ≡ taking → IsComplete X.right
      complete_now d (inl c) t = c
      complete_now d (inr none) t =
          let b = (k.holds.turn X.left X.right X.of).builds (ap is_taking t) in
          absurd (wanted output.0 output.1 (b.1 output.0 output.1) (sym (D_is output.0 output.1) ∙ d) none)

      by : (node.progress.stage ≡ giving) ⊎ (node.progress.stage ≡ taking) × (D ≡ false) × (R ≡ true) → HasRight node X.right
      by (inl g) = k.holds.has_right (ap is_giving g) X.right X.of.right_enters.0 X.of.right_enters.1
      by (inr (t, d, r)) = let c = complete_now d (sent_all X.right X.of.right_enters.0 (sym R_is ∙ r)) t in (c, all_kept c)

  -- all is given where the left input is done and nothing is owed
  given_now : is_done (first_port given.inputs) ≡ true → owes_last j node.progress ≡ false → HasRight node X.right → Given w n node j ⊎ Unwanted
  given_now l owes has = by (sent_all X.left X.of.left_enters.0 (sym L_is ∙ l))
    where
      by : IsComplete X.left ⊎ Unwanted → Given w n node j ⊎ Unwanted
      by (inr none) = inr none
      by (inl c) = inl (complete, rights, owes)
        where
          complete : AllComplete w n
          complete p e = of (one_of F w n node j o.known X p e)
            where
              of : (p ≡ X.left) ⊎ (p ≡ X.right) → IsComplete p
              of (inl is) = subst IsComplete (sym is) c
              of (inr is) = subst IsComplete (sym is) has.0

          rights : HasAllRight w n node
          rights p e i = of (one_of F w n node j o.known X p e)
            where
              of : (p ≡ X.left) ⊎ (p ≡ X.right) → HasRight node p
              of (inl is) = absurd (let zero_in : p.wire.input ≡ 0 = ap (λ (q : Pipe). q.wire.input) is ∙ X.of.left_enters.1 in omega (arith, zero_in, i))
              of (inr is) = subst (HasRight node) (sym is) has

  owes_none : A ≡ true → (is_done (first_port given.inputs) ≡ true) × (owes_last j node.progress ≡ false)
  owes_none e = let b = both_true (is_done (first_port given.inputs)) (has_given_all w.options (equi_join j) node.progress) e in (b.0, not_is (owes_last j node.progress) b.1)

  given_on : Given w n node j → Given v n y j
  given_on = given_still F w v n node y j o.known kv shape refl X Y back refl (λ e. e) taken sent_same

  unwanted_on : Unwanted → (p : Pipe) → Leaves v n p → IsTrue (p.is_dropped || is_done p.wire.receive_state)
  unwanted_on none p l =
      let x = turned_from w n node progress there p l.0 in
      or_on x.0.is_dropped (is_done x.0.wire.receive_state) p.is_dropped (is_done p.wire.receive_state) (λ d. x.2.dropped ∙ d) x.2.received_on (none x.0 (x.1, sym (ap (λ (q : Joins). q.sender) x.2.joins) ∙ l.1))

  spent_now : is_spent st ≡ true → Given v n y j ⊎ ((p : Pipe) → Leaves v n p → IsTrue (p.is_dropped || is_done p.wire.receive_state))
  spent_now e = by (spent_why node.progress.stage D R A e)
    where
      of : Given w n node j ⊎ Unwanted → Given v n y j ⊎ ((p : Pipe) → Leaves v n p → IsTrue (p.is_dropped || is_done p.wire.receive_state))
      of (inl g) = inl (given_on g)
      of (inr none) = inr (unwanted_on none)

      by : (D ≡ true) ⊎ ((node.progress.stage ≡ giving) × (A ≡ true)) ⊎ (node.progress.stage ≡ spent) → Given v n y j ⊎ ((p : Pipe) → Leaves v n p → IsTrue (p.is_dropped || is_done p.wire.receive_state))
      by (inl d) = inr (unwanted_on (λ p l. second p.is_dropped (is_done p.wire.receive_state) (sym (D_is p l) ∙ d)))
      by (inr (inl (g, a))) = let b = owes_none a in of (given_now b.0 b.1 (k.holds.has_right (ap is_giving g) X.right X.of.right_enters.0 X.of.right_enters.1))
      by (inr (inr s)) = of (k.spent_gave (ap is_spent s))

  -- WHAT IT SAYS OF ITS INPUTS
  left_is : written_pipe n (answer w n node progress there) X.left ≡ Y.left
  left_is =
      let x = from_map (written_pipe n (answer w n node progress there)) Y.left w.pipes Y.of.left_enters.0.0 in
      let t = turned_from w n node progress there Y.left Y.of.left_enters.0.0 in
      let joined = turns_joins n (answer w n node progress there) x.0 in
      let e : Enters w n x.0 = (x.1, sym (ap (λ (q : Joins). q.receiver) joined) ∙ ap (λ (p : Pipe). p.wire.receiver) x.2 ∙ Y.of.left_enters.0.1) in
      ap (written_pipe n (answer w n node progress there)) (sym (same_left F w n X.left X.right o.known X.of x.0 e (sym (ap (λ (q : Joins). q.input) joined) ∙ ap (λ (p : Pipe). p.wire.input) x.2 ∙ Y.of.left_enters.1))) ∙ x.2

  right_is : written_pipe n (answer w n node progress there) X.right ≡ Y.right
  right_is =
      let x = from_map (written_pipe n (answer w n node progress there)) Y.right w.pipes Y.of.right_enters.0.0 in
      let joined = turns_joins n (answer w n node progress there) x.0 in
      let e : Enters w n x.0 = (x.1, sym (ap (λ (q : Joins). q.receiver) joined) ∙ ap (λ (p : Pipe). p.wire.receiver) x.2 ∙ Y.of.right_enters.0.1) in
      ap (written_pipe n (answer w n node progress there)) (sym (same_right F w n X.left X.right o.known X.of x.0 e (sym (ap (λ (q : Joins). q.input) joined) ∙ ap (λ (p : Pipe). p.wire.input) x.2 ∙ Y.of.right_enters.1))) ∙ x.2

  left_says : Y.left.wire.receive_state ≡ kept_state X.left.wire.receive_state (get_or (kept_done given.inputs said.inputs) 0 X.left.wire.receive_state)
  left_says =
      ap (λ (p : Pipe). p.wire.receive_state) (sym left_is) ∙ receive_of n (answer w n node progress there) X.left X.of.left_enters.0.1 (nat_eq X.left.wire.receiver n) refl (same_true X.left.wire.receiver n X.of.left_enters.0.1)
      ∙ (λ i. kept_state X.left.wire.receive_state (get_or (a_inputs i) (X.of.left_enters.1 i) X.left.wire.receive_state))

  right_says : Y.right.wire.receive_state ≡ kept_state X.right.wire.receive_state (get_or (kept_done given.inputs said.inputs) 1 X.right.wire.receive_state)
  right_says =
      ap (λ (p : Pipe). p.wire.receive_state) (sym right_is) ∙ receive_of n (answer w n node progress there) X.right X.of.right_enters.0.1 (nat_eq X.right.wire.receiver n) refl (same_true X.right.wire.receiver n X.of.right_enters.0.1)
      ∙ (λ i. kept_state X.right.wire.receive_state (get_or (a_inputs i) (X.of.right_enters.1 i) X.right.wire.receive_state))

  builds_first : BuildsFirst v n y Y.left Y.right
  builds_first = by st refl
    where
      at : (s : Stage) → st ≡ s → stage_is progress.stage s
      at s e = stage ∙ e

      by : (s : Stage) → st ≡ s → BuildsFirst v n y Y.left Y.right
      by taking e =
          record {
            builds = λ t. (
              ap is_ready (left_says ∙ ap (λ q. kept_state X.left.wire.receive_state (get_or (kept_done given.inputs (join_answer j node.progress q given).inputs) 0 X.left.wire.receive_state)) e) ∙ first_blocked given.inputs X.left.wire.receive_state (let l = two_in in omega (arith, l)),
              λ p l.
                  let x = turned_from w n node progress there p l.0 in
                  x.2.dropped ∙ ((k.holds.turn X.left X.right X.of).builds (ap is_taking (takes_why node.progress.stage D R A (ap is_taking e)))).1 x.0 (x.1, sym (ap (λ (q : Joins). q.sender) x.2.joins) ∙ l.1),
            );
            built = λ f. absurd (let never : true ≡ false = sym (ap is_taking (at taking e)) ∙ f in cc);
            ends = λ f. absurd (let never : false ≡ true = sym (ap is_spent (at taking e)) ∙ f in cc);
          }
      by giving e =
          record {
            builds = λ t. absurd (let never : false ≡ true = sym (ap is_taking (at giving e)) ∙ t in cc);
            built = λ f. ap is_done (right_says ∙ ap (λ q. kept_state X.right.wire.receive_state (get_or (kept_done given.inputs (join_answer j node.progress q given).inputs) 1 X.right.wire.receive_state)) e) ∙ second (is_done (first_port given.inputs) && owes_last j node.progress);
            ends = λ f. absurd (let never : false ≡ true = sym (ap is_spent (at giving e)) ∙ f in cc);
          }
        where
          second : (b : Bool) → is_done (kept_state X.right.wire.receive_state (get_or (kept_done given.inputs (cond {A = Sides} b (record { inputs = port.Done ∷ port.Done ∷ []; outputs = port.Ready ∷ [] }) (record { inputs = first_port given.outputs ∷ port.Done ∷ []; outputs = first_port given.inputs ∷ [] })).inputs) 1 X.right.wire.receive_state)) ≡ true
          second true = second_done given.inputs port.Done X.right.wire.receive_state (let l = two_in in omega (arith, l))
          second false = second_done given.inputs (first_port given.outputs) X.right.wire.receive_state (let l = two_in in omega (arith, l))
      by spent e =
          record {
            builds = λ t. absurd (let never : false ≡ true = sym (ap is_taking (at spent e)) ∙ t in cc);
            built = λ f. ap is_done (right_says ∙ ap (λ q. kept_state X.right.wire.receive_state (get_or (kept_done given.inputs (join_answer j node.progress q given).inputs) 1 X.right.wire.receive_state)) e) ∙ second_done given.inputs port.Done X.right.wire.receive_state (let l = two_in in omega (arith, l));
            ends = λ f. ap is_done (left_says ∙ ap (λ q. kept_state X.left.wire.receive_state (get_or (kept_done given.inputs (join_answer j node.progress q given).inputs) 0 X.left.wire.receive_state)) e) ∙ first_done given.inputs port.Done X.left.wire.receive_state (let l = two_in in omega (arith, l));
          }

  -- WHY AN OUTPUT IS COMPLETE
  why : (x : Pipe) → Leaves w n x → (p : Pipe) → Newly F w n node progress o shut there x p → Given v n y j
  why x l p new = by st refl
    where
      says : is_done (get_or (kept_done given.outputs said.outputs) 0 x.wire.send_state) ≡ true
      says = (λ i. is_done (get_or (sym a_outputs i) (sym (out_state x l).0 i) x.wire.send_state)) ∙ new.said

      head_done : (s : PortState) → is_done (get_or (kept_done given.outputs (s ∷ [])) 0 x.wire.send_state) ≡ true → is_done s ≡ true
      head_done s e = out_done x.wire.receive_state s new.reader ((λ i. is_done (get_or (kept_done (sym (out_state x l).1 i) (s ∷ [])) 0 x.wire.send_state)) ∙ e)

      at : (s : Stage) → st ≡ s → is_done (get_or (kept_done given.outputs (join_answer j node.progress s given).outputs) 0 x.wire.send_state) ≡ true
      at s e = ap (λ q. is_done (get_or (kept_done given.outputs (join_answer j node.progress q given).outputs) 0 x.wire.send_state)) (sym e) ∙ says

      wanted_here : Given w n node j ⊎ Unwanted → Given v n y j
      wanted_here (inl g) = given_on g
      wanted_here (inr none) = absurd (wanted x l new.dropped new.reader none)

      of_giving : (b : Bool) → (is_done (first_port given.inputs) && owes_last j node.progress) ≡ b → st ≡ giving
          → is_done (get_or (kept_done given.outputs (cond {A = Sides} b (record { inputs = port.Done ∷ port.Done ∷ []; outputs = port.Ready ∷ [] }) (record { inputs = first_port given.outputs ∷ port.Done ∷ []; outputs = first_port given.inputs ∷ [] })).outputs) 0 x.wire.send_state) ≡ true → Given v n y j
      of_giving true t e d = absurd (let never : false ≡ true = head_done port.Ready d in cc)
      of_giving false t e d =
          let l_done = head_done (first_port given.inputs) d in
          wanted_here (given_now l_done (ap (λ b. b && owes_last j node.progress) (sym l_done) ∙ t) (right_now e))

      of_spent : (D ≡ true) ⊎ ((node.progress.stage ≡ giving) × (A ≡ true)) ⊎ (node.progress.stage ≡ spent) → Given v n y j
      of_spent (inl d) = absurd (let never : true ≡ false = sym d ∙ D_is x l ∙ new.reader in cc)
      of_spent (inr (inl (g, a))) = let b = owes_none a in wanted_here (given_now b.0 b.1 (k.holds.has_right (ap is_giving g) X.right X.of.right_enters.0 X.of.right_enters.1))
      of_spent (inr (inr s)) = wanted_here (k.spent_gave (ap is_spent s))

      by : (s : Stage) → st ≡ s → Given v n y j
      by taking e = absurd (let never : false ≡ true = head_done port.Blocked (at taking e) in cc)
      by giving e = of_giving (is_done (first_port given.inputs) && owes_last j node.progress) refl e (at giving e)
      by spent e = of_spent (spent_why node.progress.stage D R A (ap is_spent e))

  pub join_turned : KeepsJoin F v n y j
  join_turned =
      record {
        holds = quiet_join F w v n node y j o.known kv shape refl X Y back refl (λ e. e) taken sent_same builds_first (λ t. right_on (right_now (is_giving_of st (ap is_giving (sym stage) ∙ t)))) completes k.holds;
        spent_gave = λ t. spent_now (ap is_spent (sym stage) ∙ t);
      }
    where
      is_giving_of : (s : Stage) → is_giving s ≡ true → s ≡ giving
      is_giving_of taking e = absurd (let never : false ≡ true = e in cc)
      is_giving_of giving e = refl
      is_giving_of spent e = absurd (let never : false ≡ true = e in cc)

      completes : (p : Pipe) → Leaves v n p → IsComplete p → ((x : Pipe) × Leaves w n x × IsComplete x) ⊎ Given v n y j
      completes p l c =
          let x = turned_from w n node progress there p l.0 in
          by x.0 (x.1, sym (ap (λ (q : Joins). q.sender) x.2.joins) ∙ l.1) (newly F w n node progress o shut there x.0 p x.1 x.2 c)
        where
          by : (x : Pipe) → Leaves w n x → IsComplete x ⊎ Newly F w n node progress o shut there x p → ((x : Pipe) × Leaves w n x × IsComplete x) ⊎ Given v n y j
          by x lx (inl was) = inl (x, lx, was)
          by x lx (inr new) = inr (why x lx p new)

  -- WHAT IT IS DONE WITH
  no_use_now : ((p : Pipe) → Leaves v n p → IsTrue (p.is_dropped || is_done p.wire.receive_state)) → HasNoUse v n
  no_use_now none =
      let z = written_pipe n (answer w n node progress there) output.0 in
      let c : Contains v.pipes z = contains_map (written_pipe n (answer w n node progress there)) output.0 w.pipes output.1.0 in
      inr (z, c, ap (λ (q : Joins). q.sender) (turns_joins n (answer w n node progress there) output.0) ∙ output.1.1, λ q cq from. none q (cq, from))

  abbrev Told : Pipe → Type 0
  Told q = IsComplete q ⊎ HasNoUse v n

  told : (x q : Pipe) → Turned n (answer w n node progress there) x q → IsComplete x ⊎ Unwanted → Told q
  told x q t (inl c) = inl (complete_turned F w n node progress o shut there x q t c)
  told x q t (inr none) = inr (no_use_now (unwanted_on none))

  by_fits : (x : Pipe) → Enters w n x → is_done x.wire.receive_state ≡ true → IsComplete x ⊎ Unwanted
  by_fits x e d = by (done x e d)
    where
      by : IsComplete x ⊎ HasNoUse w n → IsComplete x ⊎ Unwanted
      by (inl c) = inl c
      by (inr none) = inr (unused none)

  by_reader : D ≡ true → Unwanted
  by_reader d = λ p l. second p.is_dropped (is_done p.wire.receive_state) (sym (D_is p l) ∙ d)

  first_kept : (ss news : List PortState) (s a d : PortState) (rest : List PortState) → slice_get ss 0 ≡ Some s → news ≡ a ∷ rest → get_or (kept_done ss news) 0 d ≡ kept_state s a
  first_kept [] news s a d rest e f = absurd (let none : None ≡ Some s = e in cc)
  first_kept (x ∷ ss) news s a d rest e f = let q : Some x ≡ Some s = e in let is : x ≡ s = cc in (λ i. get_or (kept_done (x ∷ ss) (f i)) 0 d) ∙ (λ i. kept_state (is i) a)

  second_kept : (ss news : List PortState) (s a b d : PortState) → slice_get ss 1 ≡ Some s → news ≡ a ∷ b ∷ [] → get_or (kept_done ss news) 1 d ≡ kept_state s b
  second_kept [] news s a b d e f = absurd (let none : None ≡ Some s = e in cc)
  second_kept (x ∷ []) news s a b d e f = absurd (let none : None ≡ Some s = e in cc)
  second_kept (x ∷ y ∷ ss) news s a b d e f = let q : Some y ≡ Some s = e in let is : y ≡ s = cc in (λ i. get_or (kept_done (x ∷ y ∷ ss) (f i)) 1 d) ∙ (λ i. kept_state (is i) b)

  -- its right input was done with before, unless it took
  right_before : is_taking node.progress.stage ≡ false → IsComplete X.right ⊎ Unwanted
  right_before f = by_fits X.right X.of.right_enters.0 ((k.holds.turn X.left X.right X.of).built f)

  -- why it says of an input that it is done
  left_why : (s : Stage) → st ≡ s → (a : PortState) (rest : List PortState) → (join_answer j node.progress s given).inputs ≡ a ∷ rest → is_done a ≡ true → IsComplete X.left ⊎ Unwanted
  left_why taking e a rest f d = absurd (let q : port.Blocked ∷ port.Ready ∷ [] ≡ a ∷ rest = f in let is : port.Blocked ≡ a = cc in let never : false ≡ true = ap is_done is ∙ d in cc)
  left_why giving e a rest f d = by (is_done (first_port given.inputs) && owes_last j node.progress) refl f
    where
      by : (b : Bool) → (is_done (first_port given.inputs) && owes_last j node.progress) ≡ b
          → (cond {A = Sides} b (record { inputs = port.Done ∷ port.Done ∷ []; outputs = port.Ready ∷ [] }) (record { inputs = first_port given.outputs ∷ port.Done ∷ []; outputs = first_port given.inputs ∷ [] })).inputs ≡ a ∷ rest → IsComplete X.left ⊎ Unwanted
      by true t f = sent_all X.left X.of.left_enters.0 (sym L_is ∙ (both_true (is_done (first_port given.inputs)) (owes_last j node.progress) t).0)
      by false t f = inr (by_reader (let q : first_port given.outputs ∷ port.Done ∷ [] ≡ a ∷ rest = f in let is : first_port given.outputs ≡ a = cc in ap is_done is ∙ d))
  left_why spent e a rest f d = by (spent_why node.progress.stage D R A (ap is_spent e))
    where
      by : (D ≡ true) ⊎ ((node.progress.stage ≡ giving) × (A ≡ true)) ⊎ (node.progress.stage ≡ spent) → IsComplete X.left ⊎ Unwanted
      by (inl r) = inr (by_reader r)
      by (inr (inl (g, t))) = sent_all X.left X.of.left_enters.0 (sym L_is ∙ (owes_none t).0)
      by (inr (inr s)) = by_fits X.left X.of.left_enters.0 ((k.holds.turn X.left X.right X.of).ends (ap is_spent s))

  right_why : (s : Stage) → st ≡ s → (a b : PortState) → (join_answer j node.progress s given).inputs ≡ a ∷ b ∷ [] → is_done b ≡ true → IsComplete X.right ⊎ Unwanted
  right_why taking e a b f d = absurd (let q : port.Blocked ∷ port.Ready ∷ [] ≡ a ∷ b ∷ [] = f in let is : port.Ready ≡ b = cc in let never : false ≡ true = ap is_done is ∙ d in cc)
  right_why giving e a b f d = by (gives_why node.progress.stage D R A (ap is_giving e))
    where
      by : (node.progress.stage ≡ giving) ⊎ (node.progress.stage ≡ taking) × (D ≡ false) × (R ≡ true) → IsComplete X.right ⊎ Unwanted
      by (inl g) = right_before (ap is_taking g)
      by (inr (t, d, r)) = sent_all X.right X.of.right_enters.0 (sym R_is ∙ r)
  right_why spent e a b f d = by (spent_why node.progress.stage D R A (ap is_spent e))
    where
      by : (D ≡ true) ⊎ ((node.progress.stage ≡ giving) × (A ≡ true)) ⊎ (node.progress.stage ≡ spent) → IsComplete X.right ⊎ Unwanted
      by (inl r) = inr (by_reader r)
      by (inr (inl (g, t))) = right_before (ap is_taking g)
      by (inr (inr s)) = right_before (ap is_taking s)

  two_said : (s : Stage) → (a : PortState) × (b : PortState) × ((join_answer j node.progress s given).inputs ≡ a ∷ b ∷ [])
  two_said taking = (port.Blocked, port.Ready, refl)
  two_said giving = by (is_done (first_port given.inputs) && owes_last j node.progress)
    where
      by : (c : Bool) → (a : PortState) × (b : PortState)
          × ((cond {A = Sides} c (record { inputs = port.Done ∷ port.Done ∷ []; outputs = port.Ready ∷ [] }) (record { inputs = first_port given.outputs ∷ port.Done ∷ []; outputs = first_port given.inputs ∷ [] })).inputs ≡ a ∷ b ∷ [])
      by true = (port.Done, port.Done, refl)
      by false = (first_port given.outputs, port.Done, refl)
  two_said spent = (port.Done, port.Done, refl)

  pub join_done : DoneFits v n
  join_done q e d = by (one_of F v n y j kv Y q e)
    where
      turned_of : (x z : Pipe) → written_pipe n (answer w n node progress there) x ≡ z → Turned n (answer w n node progress there) x z
      turned_of x z is = subst (Turned n (answer w n node progress there) x) is (turns n (answer w n node progress there) x)

      two : (a : PortState) × (b : PortState) × (said.inputs ≡ a ∷ b ∷ [])
      two = two_said st

      left_case : (is_done X.left.wire.receive_state ≡ true) ⊎ (is_done (kept_state X.left.wire.send_state two.0) ≡ true) → IsComplete X.left ⊎ Unwanted
      left_case (inl before) = by_fits X.left X.of.left_enters.0 before
      left_case (inr now) = of (kept_cases X.left.wire.send_state two.0 now)
        where
          of : (is_done X.left.wire.send_state ≡ true) ⊎ (is_done two.0 ≡ true) → IsComplete X.left ⊎ Unwanted
          of (inl sent) = sent_all X.left X.of.left_enters.0 sent
          of (inr said_so) = left_why st refl two.0 (two.1 ∷ []) two.2 said_so

      right_case : (is_done X.right.wire.receive_state ≡ true) ⊎ (is_done (kept_state X.right.wire.send_state two.1) ≡ true) → IsComplete X.right ⊎ Unwanted
      right_case (inl before) = by_fits X.right X.of.right_enters.0 before
      right_case (inr now) = of (kept_cases X.right.wire.send_state two.1 now)
        where
          of : (is_done X.right.wire.send_state ≡ true) ⊎ (is_done two.1 ≡ true) → IsComplete X.right ⊎ Unwanted
          of (inl sent) = sent_all X.right X.of.right_enters.0 sent
          of (inr said_so) = right_why st refl two.0 two.1 two.2 said_so

      left_done : is_done Y.left.wire.receive_state ≡ true → IsComplete X.left ⊎ Unwanted
      left_done t = left_case (kept_cases X.left.wire.receive_state (kept_state X.left.wire.send_state two.0) (ap is_done (ap (kept_state X.left.wire.receive_state) (sym (first_kept given.inputs said.inputs X.left.wire.send_state two.0 X.left.wire.receive_state (two.1 ∷ []) left_state two.2)) ∙ sym left_says) ∙ t))

      right_done : is_done Y.right.wire.receive_state ≡ true → IsComplete X.right ⊎ Unwanted
      right_done t = right_case (kept_cases X.right.wire.receive_state (kept_state X.right.wire.send_state two.1) (ap is_done (ap (kept_state X.right.wire.receive_state) (sym (second_kept given.inputs said.inputs X.right.wire.send_state two.0 two.1 X.right.wire.receive_state right_state two.2)) ∙ sym right_says) ∙ t))

      by : (q ≡ Y.left) ⊎ (q ≡ Y.right) → IsComplete q ⊎ HasNoUse v n
      by (inl is) = subst Told (sym is) (told X.left Y.left (turned_of X.left Y.left left_is) (left_done (ap (λ (p : Pipe). is_done p.wire.receive_state) (sym is) ∙ d)))
      by (inr is) = subst Told (sym is) (told X.right Y.right (turned_of X.right Y.right right_is) (right_done (ap (λ (p : Pipe). is_done p.wire.receive_state) (sym is) ∙ d)))
