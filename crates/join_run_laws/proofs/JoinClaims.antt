-- An equi join claims: a right morsel that it keeps, a left morsel that probes, or the right rows that come last.
use Rattle.std.proofs.Common.{◌≡◌, ◌≢◌, ℕ, suc, ◌<◌, ◌+◌, ◌⊎◌, Bool, true, false, cond, List, [], ◌∷◌, ◌++◌, length, take, Option, Some, None, refl, sym, ap, subst, ◌∙◌, inl, inr, arith}
use Rattle.std.proofs.lemmas.Bool.{cases_eq}
use Rattle.std.proofs.lemmas.Bool.Decides.{nat_tests}
use Rattle.std.proofs.lemmas.List.{take_all}
use Rattle.std.specs.Prelude.{Contains, IsFalse, IsTrue, get_or, map, nat_eq, option_map, slice_get, slice_set, ◌&&◌}
use Rattle.ps_frame.specs.Functions.{Functions}
use Rattle.ps_frame.specs.Tables.{Row}
use Rattle.ps_meaning.specs.Cases.{rows_table}
use Rattle.ps_meaning.specs.Joins.{fills_right}
use Rattle.ps_meaning.specs.Shape.{equi_join}
use Rattle.ps_meaning.specs.Sound.{HasInputs}
use Rattle.ps_meaning.specs.Steps.{JoinStep}
use Rattle.ps_turns.specs.Claims.{Claim, Next, all_taken, claim_by, of_join, of_last, owes_last, taken_rows, with_kept, with_slot}
use Rattle.ps_turns.specs.Progress.{Progress, giving, is_giving, taking}
use Rattle.ps_turns.specs.Results.{IsPartial}
use Rattle.ps_turns.specs.Tasks.{Piece, gives_last, keeps, probes}
use Rattle.ps_world.specs.Claims.{claim_at, inputs_in_phase, next_morsel, piece_of}
use Rattle.ps_world.specs.Facts.{keeps_one}
use Rattle.ps_world.specs.Pipes.{is_input}
use Rattle.ps_world.specs.World.{Node, Pipe, World, flat, has_next, heads_of, inputs_done, morsel_at, rows_in_order, running, schemas_for, shape_of}
use Rattle.world_claims.specs.Numbering.{Known, keeps_slots}
use Rattle.world_facts.proofs.CutOff.{both_true}
use Rattle.world_facts.proofs.Slots.{at_cases, at_end}
use Rattle.world_laws.proofs.PassingPorts.{same_number, was_kept}
use Rattle.world_families.specs.Joins.{HasAllRight, HasRight, HoldsJoin, IsJoinWork}
use Rattle.world_families.specs.Keepers.{IsKeptOf, schema_of_input, slots_at}
use Rattle.world_families.specs.Work.{AllComplete, Enters, IsComplete, Work, asked_by, work_of}
use Rattle.family_pipes.proofs.SourceSteps.{StepOf}
use Rattle.family_pipes.proofs.Complete.{in_no_phase}
use Rattle.world_laws.proofs.Answered.{in_shape}
use Rattle.world_laws.proofs.InOrder.{contains_first, contains_later}
use Rattle.join_run_laws.proofs.JoinInputs.{JoinAt, same_left, same_right}
use Rattle.join_run_laws.proofs.JoinGoes.{InputGoes, fills_at, gives_on, given_on, right_on, same_schemas}
use Rattle.join_run_laws.proofs.JoinStill.{OutsStay, came, completes, kept_partial, left_goes, left_on, one_of, right_goes, right_goes_on, turn_on}
use Rattle.orderly_worlds.proofs.Goes.{Goes, GoesOn, IsTakenBy, IsTakenOf}
use Rattle.orderly_worlds.proofs.Orderly.{Orderly}
use Rattle.orderly_worlds.proofs.ReadRows.{came_to, take_fills, take_more}
use Rattle.orderly_worlds.proofs.Seen.{OutsOrNew}
use Rattle.join_laws.proofs.Walk.{Filled, Slots}

-- what is kept is what came, where all came
taken_is : (xs : Slots) → Filled xs → taken_rows xs ≡ rows_in_order xs
taken_is [] f = refl
taken_is (None ∷ xs) f = absurd (let r = f 0 (omega arith) in let e : Some None ≡ Some (Some r.0) = r.1 in cc)
taken_is (Some rs ∷ xs) f = ap (λ ys. rs ++ ys) (taken_is xs (λ k lt. f (suc k) (omega (arith, lt))))

-- slots of two inputs
set_second : (taken : List Slots) (xs : Slots) → length taken ≡ 2 → (get_or (slice_set taken 1 xs) 1 [] ≡ xs) × (get_or (slice_set taken 1 xs) 0 [] ≡ get_or taken 0 [])
set_second [] xs e = absurd (omega arith)
set_second (a ∷ []) xs e = absurd (omega arith)
set_second (a ∷ b ∷ ts) xs e = (refl, refl)

set_first : (taken : List Slots) (xs : Slots) → length taken ≡ 2 → (get_or (slice_set taken 0 xs) 0 [] ≡ xs) × (get_or (slice_set taken 0 xs) 1 [] ≡ get_or taken 1 [])
set_first [] xs e = absurd (omega arith)
set_first (a ∷ ts) xs e = (refl, refl)

all_two : (taken : List Slots) → length taken ≡ 2 → map taken_rows taken ≡ taken_rows (get_or taken 0 []) ∷ taken_rows (get_or taken 1 []) ∷ []
all_two [] e = absurd (omega arith)
all_two (a ∷ []) e = absurd (omega arith)
all_two (a ∷ b ∷ []) e = refl
all_two (a ∷ b ∷ c ∷ ts) e = absurd (omega arith)

-- the next morsel of an input, with its number
morsel_is : (o : Option (List Row)) (k : ℕ) (m : ℕ × List Row) → option_map {U = ℕ × List Row} (λ rs. (k, rs)) o ≡ Some m → (o ≡ Some m.1) × (k ≡ m.0)
morsel_is None k m e = absurd (let none : None ≡ Some m = e in cc)
morsel_is (Some rs) k m e = let q : Some (k, rs) ≡ Some m = e in let is : (k, rs) ≡ m = cc in (ap (λ (x : ℕ × List Row). Some x.1) is, ap (λ (x : ℕ × List Row). x.0) is)

slot_is : (o : Option (Option (List Row))) (rs : List Row) → flat o ≡ Some rs → o ≡ Some (Some rs)
slot_is None rs e = absurd (let none : None ≡ Some rs = e in cc)
slot_is (Some slot) rs e = ap Some e

next_pipe : (ps : List Pipe) (m : ℕ × List Row) → next_morsel ps ≡ Some m → (x : Pipe) × Contains ps x × (slice_get x.got x.next ≡ Some (Some m.1)) × (x.next ≡ m.0)
next_pipe [] m e = absurd (let none : None ≡ Some m = e in cc)
next_pipe (x ∷ ps) m e = by (has_next x) refl (next_pipe ps m)
  where
    at : (b : Bool) → has_next x ≡ b → cond b (option_map {U = ℕ × List Row} (λ rs. (x.next, rs)) (morsel_at x.next x.got)) (next_morsel ps) ≡ Some m
    at b h = sym (ap (λ b. cond b (option_map {U = ℕ × List Row} (λ rs. (x.next, rs)) (morsel_at x.next x.got)) (next_morsel ps)) h) ∙ e

    by : (b : Bool) → has_next x ≡ b → (next_morsel ps ≡ Some m → (z : Pipe) × Contains ps z × (slice_get z.got z.next ≡ Some (Some m.1)) × (z.next ≡ m.0)) → (z : Pipe) × Contains (x ∷ ps) z × (slice_get z.got z.next ≡ Some (Some m.1)) × (z.next ≡ m.0)
    by true h rest = let a = morsel_is (morsel_at x.next x.got) x.next m (at true h) in (x, contains_first x ps, slot_is (slice_get x.got x.next) m.1 a.0, a.1)
    by false h rest = let r = rest (at false h) in (r.0, contains_later x r.0 ps r.1, r.2, r.3)

no_claim : {A : Type 0} (c : Claim) → None ≡ Some c → A
no_claim c e = absurd (let none : None ≡ Some c = e in cc)

module _ (F : Functions) (w v : World) (n : ℕ) (node y : Node) (j : JoinStep) (o : Orderly F w) (kv : Known F v) (begun : w.is_open ≡ true) (shape : shape_of v ≡ shape_of w) (there : slice_get w.nodes n ≡ Some node) (is_one : node.node.kind ≡ equi_join j) (same : y.node ≡ node.node)
    (X : JoinAt F w n node j) (Y : JoinAt F v n y j) (h : HoldsJoin F w n node j)
    (i : ℕ) (c : Claim) (is : claim_at w n i node ≡ Some c) (g : GoesOn (IsTakenOf n i) (IsTakenBy n i c.takes_morsel) w v) (s : StepOf F w v n node) (progress : y.progress ≡ c.progress) (outs : OutsOrNew w v n i c) (stay : OutsStay w v n)
    (new : (worker : ℕ) × Contains v.outs (piece_of n i worker c)) where
  abbrev xl : Pipe
  xl = X.left

  abbrev xr : Pipe
  xr = X.right

  abbrev yl : Pipe
  yl = Y.left

  abbrev yr : Pipe
  yr = Y.right

  abbrev Takes : Pipe → Type 0
  Takes = IsTakenOf n i

  abbrev Musts : Pipe → Type 0
  Musts = IsTakenBy n i c.takes_morsel

  abbrev next : Next
  next = next_morsel (inputs_in_phase w n i)

  some : (x : Pipe) → Takes x → (rs : List Row) × (slice_get x.got x.next ≡ Some (Some rs))
  some x t = t.1

  gl : InputGoes xl yl
  gl = left_on F w v n node y j o kv begun shape there is_one same X Y Takes Musts some g

  gr : InputGoes xr yr
  gr = right_goes_on F w v n node y j o kv begun shape there is_one same X Y Takes Musts some g

  goes_left : Goes Takes Musts xl yl
  goes_left = left_goes F w v n node y j o kv begun shape there is_one same X Y Takes Musts some g

  goes_right : Goes Takes Musts xr yr
  goes_right = right_goes F w v n node y j o kv begun shape there is_one same X Y Takes Musts some g

  pub claim_is : of_join w.options node.node (schemas_for w node) j node.progress.stage (get_or (inputs_done w n) 0 false) i node.progress next ≡ Some c
  claim_is = (λ k. claim_by w.options node.node (schemas_for w node) (sym is_one k) node.progress (heads_of w n node) (inputs_done w n) i next) ∙ is

  -- the morsel that is taken
  pub record Source (m : ℕ × List Row) : Type 0 where
    pub pipe : Pipe
    pub enters_it : Enters w n pipe
    pub input : pipe.wire.input ≡ i
    pub is_in : is_input n i pipe ≡ true
    pub in_phase : pipe.in_phase ≡ true
    pub number : pipe.next ≡ m.0
    pub slot : slice_get pipe.got pipe.next ≡ Some (Some m.1)

  pub source : (m : ℕ × List Row) → next ≡ Some m → Source m
  source m e =
      let x = next_pipe (inputs_in_phase w n i) m e in
      let k = was_kept (λ (p : Pipe). is_input n i p && p.in_phase) x.0 w.pipes x.1 in
      let a = both_true (is_input n i x.0) x.0.in_phase k.1 in
      let b = both_true (nat_eq x.0.wire.receiver n) (nat_eq x.0.wire.input i) a.0 in
      record { pipe = x.0; enters_it = (k.0, same_number x.0.wire.receiver n b.0); input = same_number x.0.wire.input i b.1; is_in = a.0; in_phase = a.1; number = x.3; slot = x.2 }

  two_slots : length node.progress.taken ≡ 2
  two_slots = (o.known.numbers n node there).inputs ∙ subst (λ k. HasInputs k (length node.node.inputs)) is_one (o.known.facts.sound.0 n node.node (in_shape w n node there)).inputs

  -- another input isn't taken
  not_taken : (x z : Pipe) → Goes Takes Musts x z → x.wire.input ≢ i → z.next ≡ x.next
  not_taken x z p other = by p.next
    where
      by : (z.next ≡ x.next) ⊎ (z.next ≡ suc x.next) × Takes x → z.next ≡ x.next
      by (inl e) = e
      by (inr (e, t)) = absurd (other (same_number x.wire.input i (both_true (nat_eq x.wire.receiver n) (nat_eq x.wire.input i) t.0).1))

  -- A RIGHT MORSEL THAT IT KEEPS
  module _ (build : node.progress.stage ≡ taking) (at_right : i ≡ 1) (m : ℕ × List Row) (has : next ≡ Some m)
      (made : c.progress ≡ record node.progress { taken = with_slot 1 node.progress.taken }) (number : c.number ≡ m.0) (task : asked_by c ≡ record { task = keeps node.node; schemas = get_or (schemas_for w node) 1 [] ∷ []; tables = m.1 ∷ [] }) where
    of_right : Source m
    of_right = source m has

    right_is : of_right.pipe ≡ xr
    right_is = same_right F w n xl xr o.known X.of of_right.pipe of_right.enters_it (of_right.input ∙ at_right)

    slot : slice_get xr.got xr.next ≡ Some (Some m.1)
    slot = subst (λ (p : Pipe). slice_get p.got p.next ≡ Some (Some m.1)) right_is of_right.slot

    is_number : xr.next ≡ m.0
    is_number = ap (λ (p : Pipe). p.next) (sym right_is) ∙ of_right.number

    stage : y.progress.stage ≡ node.progress.stage
    stage = ap (λ (a : Progress). a.stage) (progress ∙ made)

    grown : slots_at y 1 ≡ slots_at node 1 ++ None ∷ []
    grown = ap (λ (a : Progress). get_or a.taken 1 []) (progress ∙ made) ∙ (set_second node.progress.taken (slots_at node 1 ++ None ∷ []) two_slots).0

    left_slots : slots_at y 0 ≡ slots_at node 0
    left_slots = ap (λ (a : Progress). get_or a.taken 0 []) (progress ∙ made) ∙ (set_second node.progress.taken (slots_at node 1 ++ None ∷ []) two_slots).1

    -- the right input isn't complete
    partly : IsComplete xr → ⊥
    partly d =
        let off = in_no_phase F w xr o.known X.of.right_enters.0.0 d in
        let on : xr.in_phase ≡ true = ap (λ (p : Pipe). p.in_phase) (sym right_is) ∙ of_right.in_phase in
        let never : true ≡ false = sym on ∙ off in cc

    slots : HasRight node xr → slots_at y 1 ≡ slots_at node 1
    slots r = absurd (partly r.0)

    long : length (slots_at node 1) ≡ xr.next
    long =
        let e = (o.known.numbers n node there).slots xr X.of.right_enters.0.0 X.of.right_enters.0.1 (ap (λ k. keeps_slots k xr.wire.input) is_one ∙ ap (keeps_slots (equi_join j)) X.of.right_enters.1) in
        ap (λ k. length (get_or node.progress.taken k [])) (sym X.of.right_enters.1) ∙ e

    next_left : yl.next ≡ xl.next
    next_left = not_taken xl yl goes_left (λ e. let a = X.of.left_enters.1 in omega (arith, a, e, at_right))

    pub join_builds : HoldsJoin F v n y j
    join_builds =
        record {
          turn = turn_on F w v n node y j o kv begun shape there is_one same X Y Takes Musts some g stage h.turn;
          keeps_right = record { kept = kept; awaited = awaited };
          keeps_left = λ fills p e z. subst (λ (u : Pipe). slots_at y 0 ≡ take u.next u.got) (sym (same_left F v n yl yr kv Y.of p e z)) (lefts fills);
          has_right = λ t. absurd (let never : false ≡ true = ap is_giving (sym build) ∙ ap is_giving (sym stage) ∙ t in cc);
          gives = gives_on F w v n node y j o.known shape same xl xr yl yr X.of Y.of gl gr slots (came F w v n node y j o kv begun shape there is_one same X Y Takes Musts some g s) (λ q cq e. piece q (outs q cq e))
              (completes F w v n node y j o kv begun shape there is_one same X Y Takes Musts some g s (given_on F w v n node y j o.known shape same xl xr yl yr X.of Y.of gl gr slots (one_of F v n y j kv Y) (ap (owes_last j) (progress ∙ made)))) h.gives;
        }
      where
        lefts : IsTrue (fills_right j.args.how) → slots_at y 0 ≡ take yl.next yl.got
        lefts fills = left_slots ∙ h.keeps_left fills xl X.of.left_enters.0 X.of.left_enters.1 ∙ sym (take_fills xl.got yl.got xl.next gl.fills (came_to F w o.known xl X.of.left_enters.0.0)) ∙ ap (λ k. take k yl.got) (sym next_left)

        old : (k : ℕ) (rs : List Row) → (slice_get (slots_at node 1) k ≡ Some (Some rs)) ⊎ (k ≡ length (slots_at node 1)) → slice_get (slots_at node 1 ++ None ∷ []) k ≡ Some (Some rs) → slice_get (slots_at node 1) k ≡ Some (Some rs)
        old k rs (inl e) at = e
        old k rs (inr e) at = absurd (let none : Some None ≡ Some (Some rs) = sym (at_end (slots_at node 1) None) ∙ ap (slice_get (slots_at node 1 ++ None ∷ [])) (sym e) ∙ at in cc)

        kept : (q : Pipe) (k : ℕ) (rs : List Row) → Enters v n q → q.wire.input ≡ 1 → slice_get (slots_at y 1) k ≡ Some (Some rs) → (slice_get q.got k ≡ Some (Some rs)) × (size : ℕ) × IsPartial F y.node y.node.kind 1 (rows_table (schema_of_input v y 1) rs ∷ []) size
        kept q k rs e z at =
            let there_at = ap (λ xs. slice_get xs k) (sym grown) ∙ at in
            let a = kept_partial F w v n node y j o kv begun shape there is_one same X Y Takes Musts some g k rs h.keeps_right (old k rs (at_cases (slots_at node 1) None k (Some rs) there_at) there_at) in
            (ap (λ (u : Pipe). slice_get u.got k) (same_right F v n yl yr kv Y.of q e z) ∙ a.0, a.1, a.2)

        awaited : v.ending ≡ running → (k : ℕ) → slice_get (slots_at y 1) k ≡ Some None → (x : Piece) × Contains v.outs x × (x.node ≡ n) × (x.input ≡ 1) × (x.number ≡ k) × IsTrue (keeps_one x.task)
        awaited run k at = by (at_cases (slots_at node 1) None k None (ap (λ xs. slice_get xs k) (sym grown) ∙ at))
          where
            by : (slice_get (slots_at node 1) k ≡ Some None) ⊎ (k ≡ length (slots_at node 1)) → (x : Piece) × Contains v.outs x × (x.node ≡ n) × (x.input ≡ 1) × (x.number ≡ k) × IsTrue (keeps_one x.task)
            by (inl e) = let st = stay run in let a = h.keeps_right.awaited st.0 k e in (a.0, st.1 a.0 a.1 a.2 a.5, a.2, a.3, a.4, a.5)
            by (inr e) = (piece_of n i new.0 c, new.1, refl, at_right, number ∙ sym is_number ∙ sym long ∙ sym e, subst (λ t. IsTrue (keeps_one t)) (sym (ap (λ (x : Work). x.task) task)) refl)

        this : IsKeptOf v n y 1 (piece_of n i new.0 c)
        this = (
          at_right,
          yr,
          Y.of.right_enters.0,
          Y.of.right_enters.1,
          (
            m.1,
            fills_at xr.got yr.got gr.fills c.number m.1 (ap (slice_get xr.got) (number ∙ sym is_number) ∙ slot),
            task ∙ (λ k. let x : Work = record { task = keeps (sym same k); schemas = get_or (sym (same_schemas w v node y shape same) k) 1 [] ∷ []; tables = m.1 ∷ [] } in x),
          ),
        )

        piece : (q : Piece) → Contains w.outs q ⊎ ((worker : ℕ) × (piece_of n i worker c ≡ q)) → Contains w.outs q ⊎ IsJoinWork v n y j q.gives (work_of q) ⊎ IsKeptOf v n y 1 q
        piece q (inl old_one) = inl old_one
        piece q (inr (worker, e)) = inr (inr (subst (IsKeptOf v n y 1) e this))

  -- A LEFT MORSEL THAT PROBES
  module _ (give : node.progress.stage ≡ giving) (at_left : i ≡ 0) (m : ℕ × List Row) (has : next ≡ Some m)
      (made : c.progress ≡ cond (fills_right j.args.how) (record node.progress { taken = with_kept 0 m.1 node.progress.taken }) node.progress) (number : c.gives ≡ m.0) (takes : c.takes_morsel ≡ true)
      (task : asked_by c ≡ record { task = probes node.node j; schemas = schemas_for w node; tables = m.1 ∷ taken_rows (get_or node.progress.taken 1 []) ∷ [] }) where
    of_left_pipe : Source m
    of_left_pipe = source m has

    left_is : of_left_pipe.pipe ≡ xl
    left_is = same_left F w n xl xr o.known X.of of_left_pipe.pipe of_left_pipe.enters_it (of_left_pipe.input ∙ at_left)

    probe_slot : slice_get xl.got xl.next ≡ Some (Some m.1)
    probe_slot = subst (λ (p : Pipe). slice_get p.got p.next ≡ Some (Some m.1)) left_is of_left_pipe.slot

    probe_is_number : xl.next ≡ m.0
    probe_is_number = ap (λ (p : Pipe). p.next) (sym left_is) ∙ of_left_pipe.number

    probe_next_left : yl.next ≡ suc xl.next
    probe_next_left = goes_left.surely (takes, subst (λ p. is_input n i p ≡ true) left_is of_left_pipe.is_in)

    abbrev new_progress : Bool → Progress
    new_progress b = cond b (record node.progress { taken = with_kept 0 m.1 node.progress.taken }) node.progress

    stage_of : (b : Bool) → (new_progress b).stage ≡ node.progress.stage
    stage_of true = refl
    stage_of false = refl

    sent_of : (b : Bool) → owes_last j (new_progress b) ≡ owes_last j node.progress
    sent_of true = refl
    sent_of false = refl

    right_of : (b : Bool) → get_or (new_progress b).taken 1 [] ≡ slots_at node 1
    right_of true = (set_first node.progress.taken (slots_at node 0 ++ Some m.1 ∷ []) two_slots).1
    right_of false = refl

    left_of : (b : Bool) → b ≡ true → get_or (new_progress b).taken 0 [] ≡ slots_at node 0 ++ Some m.1 ∷ []
    left_of true e = (set_first node.progress.taken (slots_at node 0 ++ Some m.1 ∷ []) two_slots).0
    left_of false e = absurd (let never : false ≡ true = e in cc)

    probe_stage : y.progress.stage ≡ node.progress.stage
    probe_stage = ap (λ (a : Progress). a.stage) (progress ∙ made) ∙ stage_of (fills_right j.args.how)

    probe_slots_same : slots_at y 1 ≡ slots_at node 1
    probe_slots_same = ap (λ (a : Progress). get_or a.taken 1 []) (progress ∙ made) ∙ right_of (fills_right j.args.how)

    probe_slots : HasRight node xr → slots_at y 1 ≡ slots_at node 1
    probe_slots r = probe_slots_same

    probe_has_now : HasRight node xr
    probe_has_now = h.has_right (ap is_giving give) xr X.of.right_enters.0 X.of.right_enters.1

    rows_are : taken_rows (slots_at node 1) ≡ rows_in_order xr.got
    rows_are = ap taken_rows probe_has_now.1 ∙ taken_is xr.got (λ k lt. let read = o.read xr X.of.right_enters.0.0 probe_has_now.0 in came_to F w o.known xr X.of.right_enters.0.0 k (omega (arith, lt, read)))

    pub join_probes : HoldsJoin F v n y j
    join_probes =
        record {
          turn = turn_on F w v n node y j o kv begun shape there is_one same X Y Takes Musts some g probe_stage h.turn;
          keeps_right = record { kept = kept; awaited = awaited };
          keeps_left = λ fills p e z. subst (λ (u : Pipe). slots_at y 0 ≡ take u.next u.got) (sym (same_left F v n yl yr kv Y.of p e z)) (lefts fills);
          has_right = λ t p e z. subst (HasRight y) (sym (same_right F v n yl yr kv Y.of p e z)) (right_on F w v n node y j o.known shape same xl xr yl yr X.of Y.of gl gr probe_slots probe_has_now);
          gives = gives_on F w v n node y j o.known shape same xl xr yl yr X.of Y.of gl gr probe_slots (came F w v n node y j o kv begun shape there is_one same X Y Takes Musts some g s) (λ q cq e. piece q (outs q cq e))
              (completes F w v n node y j o kv begun shape there is_one same X Y Takes Musts some g s (given_on F w v n node y j o.known shape same xl xr yl yr X.of Y.of gl gr probe_slots (one_of F v n y j kv Y) (ap (owes_last j) (progress ∙ made) ∙ sent_of (fills_right j.args.how)))) h.gives;
        }
      where
        lefts : IsTrue (fills_right j.args.how) → slots_at y 0 ≡ take yl.next yl.got
        lefts fills =
            ap (λ (a : Progress). get_or a.taken 0 []) (progress ∙ made) ∙ left_of (fills_right j.args.how) fills
            ∙ ap (λ xs. xs ++ Some m.1 ∷ []) (h.keeps_left fills xl X.of.left_enters.0 X.of.left_enters.1)
            ∙ sym (take_more xl.got xl.next m.1 probe_slot) ∙ sym (take_fills xl.got yl.got (suc xl.next) gl.fills one_more) ∙ ap (λ k. take k yl.got) (sym probe_next_left)
          where
            one_more : (k : ℕ) → k < suc xl.next → (a : List Row) × (slice_get xl.got k ≡ Some (Some a))
            one_more k lt = by (cases_eq k xl.next)
              where
                by : (k ≡ xl.next) ⊎ (k ≢ xl.next) → (a : List Row) × (slice_get xl.got k ≡ Some (Some a))
                by (inl e) = (m.1, ap (slice_get xl.got) e ∙ probe_slot)
                by (inr other) = came_to F w o.known xl X.of.left_enters.0.0 k (omega (arith, lt, other))

        kept : (q : Pipe) (k : ℕ) (rs : List Row) → Enters v n q → q.wire.input ≡ 1 → slice_get (slots_at y 1) k ≡ Some (Some rs) → (slice_get q.got k ≡ Some (Some rs)) × (size : ℕ) × IsPartial F y.node y.node.kind 1 (rows_table (schema_of_input v y 1) rs ∷ []) size
        kept q k rs e z at =
            let a = kept_partial F w v n node y j o kv begun shape there is_one same X Y Takes Musts some g k rs h.keeps_right (ap (λ xs. slice_get xs k) (sym probe_slots_same) ∙ at) in
            (ap (λ (u : Pipe). slice_get u.got k) (same_right F v n yl yr kv Y.of q e z) ∙ a.0, a.1, a.2)

        awaited : v.ending ≡ running → (k : ℕ) → slice_get (slots_at y 1) k ≡ Some None → (x : Piece) × Contains v.outs x × (x.node ≡ n) × (x.input ≡ 1) × (x.number ≡ k) × IsTrue (keeps_one x.task)
        awaited run k at = let st = stay run in let a = h.keeps_right.awaited st.0 k (ap (λ xs. slice_get xs k) (sym probe_slots_same) ∙ at) in (a.0, st.1 a.0 a.1 a.2 a.5, a.2, a.3, a.4, a.5)

        right_now : rows_in_order xr.got ≡ rows_in_order yr.got
        right_now = ap rows_in_order (sym (gr.rests probe_has_now.0).1)

        this : IsJoinWork v n y j c.gives (asked_by c)
        this = (
          yl,
          yr,
          Y.of,
          right_on F w v n node y j o.known shape same xl xr yl yr X.of Y.of gl gr probe_slots probe_has_now,
          inl (
            let a = number ∙ sym probe_is_number in omega (arith, a, probe_next_left),
            m.1,
            fills_at xl.got yl.got gl.fills c.gives m.1 (ap (slice_get xl.got) (number ∙ sym probe_is_number) ∙ probe_slot),
            task ∙ (λ k. let x : Work = record { task = probes (sym same k) j; schemas = sym (same_schemas w v node y shape same) k; tables = m.1 ∷ (rows_are ∙ right_now) k ∷ [] } in x),
          ),
        )

        piece : (q : Piece) → Contains w.outs q ⊎ ((worker : ℕ) × (piece_of n i worker c ≡ q)) → Contains w.outs q ⊎ IsJoinWork v n y j q.gives (work_of q) ⊎ IsKeptOf v n y 1 q
        piece q (inl old_one) = inl old_one
        piece q (inr (worker, e)) = inr (inl (subst (λ (z : Piece). IsJoinWork v n y j z.gives (work_of z)) e this))

  -- THE RIGHT ROWS THAT COME LAST
  module _ (give : node.progress.stage ≡ giving) (at_left : i ≡ 0) (left_all : IsComplete xl) (fills : IsTrue (fills_right j.args.how))
      (is_last : c ≡ of_last w.options node.node (schemas_for w node) j node.progress) where
    last_stage : y.progress.stage ≡ node.progress.stage
    last_stage = ap (λ (a : Progress). a.stage) (progress ∙ ap (λ (x : Claim). x.progress) is_last)

    last_slots_same : (k : ℕ) → slots_at y k ≡ slots_at node k
    last_slots_same k = ap (λ (a : Progress). get_or a.taken k []) (progress ∙ ap (λ (x : Claim). x.progress) is_last)

    last_slots : HasRight node xr → slots_at y 1 ≡ slots_at node 1
    last_slots r = last_slots_same 1

    last_has_now : HasRight node xr
    last_has_now = h.has_right (ap is_giving give) xr X.of.right_enters.0 X.of.right_enters.1

    full : (q : Pipe) → Contains w.pipes q → IsComplete q → Filled q.got
    full q cq d k lt = let read = o.read q cq d in came_to F w o.known q cq k (omega (arith, lt, read))

    -- nothing more of a complete input is taken
    left_next : yl.next ≡ xl.next
    left_next = by goes_left.next
      where
        by : (yl.next ≡ xl.next) ⊎ (yl.next ≡ suc xl.next) × Takes xl → yl.next ≡ xl.next
        by (inl e) = e
        by (inr (e, t)) = absurd (let never : true ≡ false = sym t.2 ∙ in_no_phase F w xl o.known X.of.left_enters.0.0 left_all in cc)

    left_kept : slots_at node 0 ≡ xl.got
    left_kept = h.keeps_left fills xl X.of.left_enters.0 X.of.left_enters.1 ∙ ap (λ k. take k xl.got) (o.read xl X.of.left_enters.0.0 left_all) ∙ take_all (length xl.got) xl.got (omega arith)

    pub join_ends : HoldsJoin F v n y j
    join_ends =
        record {
          turn = turn_on F w v n node y j o kv begun shape there is_one same X Y Takes Musts some g last_stage h.turn;
          keeps_right = record { kept = kept; awaited = awaited };
          keeps_left = λ fill p e z. subst (λ (u : Pipe). slots_at y 0 ≡ take u.next u.got) (sym (same_left F v n yl yr kv Y.of p e z)) (lefts fill);
          has_right = λ t p e z. subst (HasRight y) (sym (same_right F v n yl yr kv Y.of p e z)) (right_on F w v n node y j o.known shape same xl xr yl yr X.of Y.of gl gr last_slots last_has_now);
          gives = gives_on F w v n node y j o.known shape same xl xr yl yr X.of Y.of gl gr last_slots (came F w v n node y j o kv begun shape there is_one same X Y Takes Musts some g s) (λ q cq e. piece q (outs q cq e))
              (completes F w v n node y j o kv begun shape there is_one same X Y Takes Musts some g s given) h.gives;
        }
      where
        lefts : IsTrue (fills_right j.args.how) → slots_at y 0 ≡ take yl.next yl.got
        lefts fill = last_slots_same 0 ∙ h.keeps_left fill xl X.of.left_enters.0 X.of.left_enters.1 ∙ sym (take_fills xl.got yl.got xl.next gl.fills (came_to F w o.known xl X.of.left_enters.0.0)) ∙ ap (λ k. take k yl.got) (sym left_next)

        kept : (q : Pipe) (k : ℕ) (rs : List Row) → Enters v n q → q.wire.input ≡ 1 → slice_get (slots_at y 1) k ≡ Some (Some rs) → (slice_get q.got k ≡ Some (Some rs)) × (size : ℕ) × IsPartial F y.node y.node.kind 1 (rows_table (schema_of_input v y 1) rs ∷ []) size
        kept q k rs e z at =
            let a = kept_partial F w v n node y j o kv begun shape there is_one same X Y Takes Musts some g k rs h.keeps_right (ap (λ xs. slice_get xs k) (sym (last_slots_same 1)) ∙ at) in
            (ap (λ (u : Pipe). slice_get u.got k) (same_right F v n yl yr kv Y.of q e z) ∙ a.0, a.1, a.2)

        awaited : v.ending ≡ running → (k : ℕ) → slice_get (slots_at y 1) k ≡ Some None → (x : Piece) × Contains v.outs x × (x.node ≡ n) × (x.input ≡ 1) × (x.number ≡ k) × IsTrue (keeps_one x.task)
        awaited run k at = let st = stay run in let a = h.keeps_right.awaited st.0 k (ap (λ xs. slice_get xs k) (sym (last_slots_same 1)) ∙ at) in (a.0, st.1 a.0 a.1 a.2 a.5, a.2, a.3, a.4, a.5)

        -- it owes nothing any more
        paid : owes_last j y.progress ≡ false
        paid = ap (owes_last j) (progress ∙ ap (λ (x : Claim). x.progress) is_last) ∙ by node.progress.sent
          where
            by : (k : ℕ) → (fills_right j.args.how && nat_eq (k + 1) 0) ≡ false
            by k = ap (λ b. fills_right j.args.how && b) (grind (arith, nat_tests)) ∙ none (fills_right j.args.how)
              where
                none : (b : Bool) → (b && false) ≡ false
                none true = refl
                none false = refl

        given : AllComplete w n × HasAllRight w n node × IsFalse (owes_last j node.progress) → AllComplete v n × HasAllRight v n y × IsFalse (owes_last j y.progress)
        given (all, has, none) =
            let a = given_on F w v n node (record y { progress = record y.progress { sent = node.progress.sent } }) j o.known shape same xl xr yl yr X.of Y.of gl gr last_slots (one_of F v n y j kv Y) refl (all, has, none) in
            (a.0, a.1, paid)

        this : IsJoinWork v n y j c.gives (asked_by c)
        this =
            let r = gl.rests left_all in (
              yl,
              yr,
              Y.of,
              right_on F w v n node y j o.known shape same xl xr yl yr X.of Y.of gl gr last_slots last_has_now,
              inr (
                fills,
                r.0,
                ap (λ (x : Claim). x.gives) is_last ∙ ap length (left_kept ∙ sym r.1),
                ap asked_by is_last
                    ∙ (λ k. let x : Work = record { task = gives_last (sym same k) j; schemas = sym (same_schemas w v node y shape same) k; tables = (tables ∙ both) k } in x),
              ),
            )
          where
            tables : all_taken node.progress ≡ taken_rows (slots_at node 0) ∷ taken_rows (slots_at node 1) ∷ []
            tables = all_two node.progress.taken two_slots

            both : taken_rows (slots_at node 0) ∷ taken_rows (slots_at node 1) ∷ [] ≡ rows_in_order yl.got ∷ rows_in_order yr.got ∷ []
            both = λ k.
                (ap taken_rows left_kept ∙ taken_is xl.got (full xl X.of.left_enters.0.0 left_all) ∙ ap rows_in_order (sym (gl.rests left_all).1)) k
                ∷ (ap taken_rows last_has_now.1 ∙ taken_is xr.got (full xr X.of.right_enters.0.0 last_has_now.0) ∙ ap rows_in_order (sym (gr.rests last_has_now.0).1)) k ∷ []

        piece : (q : Piece) → Contains w.outs q ⊎ ((worker : ℕ) × (piece_of n i worker c ≡ q)) → Contains w.outs q ⊎ IsJoinWork v n y j q.gives (work_of q) ⊎ IsKeptOf v n y 1 q
        piece q (inl old_one) = inl old_one
        piece q (inr (worker, e)) = inr (inl (subst (λ (z : Piece). IsJoinWork v n y j z.gives (work_of z)) e this))
