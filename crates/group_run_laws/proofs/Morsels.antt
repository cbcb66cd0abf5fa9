-- What a reduce or a group-by keeps of its morsels goes on along each step of a phase, and at the turn all that came is kept.
use Rattle.std.proofs.Common.{◌≡◌, ◌≢◌, ℕ, zero, suc, ◌⊎◌, Bool, true, false, cond, List, [], ◌∷◌, ◌++◌, length, Option, Some, None, refl, sym, ap, subst, ◌∙◌, inl, inr, arith}
use Rattle.std.specs.Prelude.{Contains, IsTrue, get_or, map, nat_eq, option_map, slice_get, slice_set, ◌&&◌, nat_lt}
use Rattle.std.proofs.lemmas.Bool.{cases_eq}
use Rattle.std.proofs.lemmas.Option.{slice_get_within}
use Rattle.ps_frame.specs.Functions.{Functions}
use Rattle.ps_frame.specs.Tables.{Fields, Row}
use Rattle.ps_meaning.specs.Cases.{rows_table}
use Rattle.ps_meaning.specs.Shape.{PhysicalKind, PhysicalNode, group_by_node, reduce}
use Rattle.ps_meaning.specs.Sound.{HasInputs}
use Rattle.ps_options.specs.declared.options.Options.{Options}
use Rattle.ps_ports.specs.Wires.{Wire}
use Rattle.ps_turns.specs.Claims.{Claim, Next, claim_by, filled_slot, of_kept, of_morsel, of_parts, of_reduce, with_slot}
use Rattle.ps_turns.specs.Heads.{Head}
use Rattle.ps_turns.specs.Progress.{Progress, Stage, giving, is_giving, is_taking, spent, taking}
use Rattle.ps_turns.specs.Results.{IsPartial, IsResult, IsResultOf}
use Rattle.ps_turns.specs.Tables.{whole_tables}
use Rattle.ps_turns.specs.Tasks.{Piece, keeps as keeps_task, partial}
use Rattle.ps_world.specs.Claims.{inputs_in_phase, next_morsel, piece_of}
use Rattle.ps_world.specs.Facts.{Joins, joins_of, keeps_one, slots_of}
use Rattle.ps_world.specs.Opening.{pipes_from}
use Rattle.ps_world.specs.Pipes.{is_input}
use Rattle.ps_world.specs.World.{Node, Pipe, World, flat, has_next, morsel_at, running, schemas_for, shape_of}
use Rattle.world_claims.specs.Numbering.{Known, keeps_slots}
use Rattle.world_facts.proofs.CutOff.{both_true}
use Rattle.world_facts.proofs.Slots.{set_here, set_other}
use Rattle.world_families.proofs.Members.{nothing_is}
use Rattle.world_families.specs.Keepers.{IsKeptOf, KeepsMorsels, schema_of_input, slots_at}
use Rattle.world_families.specs.Work.{Enters, Work}
use Rattle.world_laws.proofs.Agree.{from_map}
use Rattle.world_laws.proofs.Answered.{in_shape}
use Rattle.world_laws.proofs.InOrder.{contains_first, contains_later, contains_map}
use Rattle.world_laws.proofs.PassingPorts.{same_number, was_kept}
use Rattle.family_keeps.proofs.Unions.{same_schemas}
use Rattle.family_pipes.proofs.Inputs.{input_of}
use Rattle.passing_runs.proofs.Slots.{Fills, Places}
use Rattle.orderly_worlds.proofs.Goes.{Goes, GoesOn}
use Rattle.node_keeps.proofs.Slots.{KeptOutsStay, one_worker}

-- reduces and group-bys
abbrev pub is_slotted : PhysicalKind → Bool
is_slotted (reduce es) = true
is_slotted (group_by_node keys aggregates) = true
is_slotted _ = false

abbrev pub IsSlotted : PhysicalKind → Type 0
IsSlotted kind = is_slotted kind ≡ true

pub one_in : (kind : PhysicalKind) (k : ℕ) → IsSlotted kind → HasInputs kind k → k ≡ 1
one_in (reduce es) k s h = h
one_in (group_by_node keys aggregates) k s h = h
one_in kind k s h = absurd (let no : false ≡ true = s in cc)

slotted : (kind : PhysicalKind) (i : ℕ) → IsSlotted kind → keeps_slots kind i ≡ true
slotted (reduce es) i s = refl
slotted (group_by_node keys aggregates) i s = refl
slotted kind i s = absurd (let no : false ≡ true = s in cc)

-- ITS CLAIM
-- it keeps the next morsel while it takes, or leaves what it took and gives
pub data ClaimsSlot (p : PhysicalNode) (ss : List Fields) (a : Progress) (i : ℕ) (next : Next) (c : Claim) : Type 0 where
  keeps_next : is_taking a.stage ≡ true → (m : ℕ × List Row) → next ≡ Some m → c.number ≡ m.0 → c.task ≡ keeps_task p → c.schemas ≡ get_or ss i [] ∷ [] → c.tables ≡ m.1 ∷ [] → c.progress.taken ≡ with_slot i a.taken → ClaimsSlot p ss a i next c
  gives_rows : is_giving a.stage ≡ true → c.progress.taken ≡ a.taken → ClaimsSlot p ss a i next c

of_slot : (o : Options) (p : PhysicalNode) (ss : List Fields) (a : Progress) (i : ℕ) (next : Next) (c : Claim) → is_taking a.stage ≡ true → of_kept o p ss i a next ≡ Some c → ClaimsSlot p ss a i next c
of_slot o p ss a i None c t q = absurd (nothing_is c q)
of_slot o p ss a i (Some m) c t q =
    let x : Claim = record (of_morsel o p ss (record a { taken = with_slot i a.taken }) (keeps_task p) m.0 m.1) { schemas = get_or ss i [] ∷ [] } in
    let is : x ≡ c = (let r : Some x ≡ Some c = q in cc) in
    subst (ClaimsSlot p ss a i (Some m)) is (keeps_next t m refl refl refl refl refl refl)

by_two : (b e : Bool) (x c : Claim) → cond b (cond e (Some x) None) None ≡ Some c → x ≡ c
by_two true true x c q = let is : x ≡ c = cc in is
by_two true false x c q = absurd (nothing_is c q)
by_two false e x c q = absurd (nothing_is c q)

pub claims_slot : (o : Options) (p : PhysicalNode) (ss : List Fields) (a : Progress) (hs : List Head) (ds : List Bool) (i : ℕ) (next : Next) (c : Claim) (kind : PhysicalKind) → IsSlotted kind → claim_by o p ss kind a hs ds i next ≡ Some c → ClaimsSlot p ss a i next c
claims_slot o p ss a hs ds i next c kind s q = by kind s q
  where
    reduced : (st : Stage) → a.stage ≡ st → of_reduce o p ss st i a next ≡ Some c → ClaimsSlot p ss a i next c
    reduced taking e q = of_slot o p ss a i next c (ap is_taking e) q
    reduced giving e q = gives_rows (ap is_giving e) (sym (ap (λ (x : Claim). x.progress.taken) (by_two (nat_eq i 0) (nat_eq a.sent 0) _ c q)))
    reduced spent e q = absurd (nothing_is c q)

    parted : (st : Stage) → a.stage ≡ st → of_parts o p ss st i a next ≡ Some c → ClaimsSlot p ss a i next c
    parted taking e q = of_slot o p ss a i next c (ap is_taking e) q
    parted giving e q = gives_rows (ap is_giving e) (sym (ap (λ (x : Claim). x.progress.taken) (by_two (nat_eq i 0) (nat_lt a.sent (length a.lists)) _ c q)))
    parted spent e q = absurd (nothing_is c q)

    by : (kind : PhysicalKind) → IsSlotted kind → claim_by o p ss kind a hs ds i next ≡ Some c → ClaimsSlot p ss a i next c
    by (reduce es) s q = reduced a.stage refl q
    by (group_by_node keys aggregates) s q = parted a.stage refl q
    by kind s q = absurd (let no : false ≡ true = s in cc)

-- LISTS OF SLOTS
pub fills_at : (xs ys : Places) → Fills xs ys → (k : ℕ) (rs : List Row) → slice_get xs k ≡ Some (Some rs) → slice_get ys k ≡ Some (Some rs)
fills_at [] ys f k rs e = absurd (let none : None ≡ Some (Some rs) = e in cc)
fills_at (None ∷ xs) [] f k rs e = absurd f
fills_at (Some a ∷ xs) [] f k rs e = absurd f
fills_at (None ∷ xs) (y ∷ ys) f zero rs e = absurd (let none : Some None ≡ Some (Some rs) = e in cc)
fills_at (None ∷ xs) (y ∷ ys) f (suc k) rs e = fills_at xs ys f k rs e
fills_at (Some a ∷ xs) (y ∷ ys) f zero rs e = ap Some f.0 ∙ e
fills_at (Some a ∷ xs) (y ∷ ys) f (suc k) rs e = fills_at xs ys f.1 k rs e

more_at : (xs : Places) (k : ℕ) (z : Option (List Row)) → slice_get (xs ++ None ∷ []) k ≡ Some z → (slice_get xs k ≡ Some z) ⊎ (k ≡ length xs) × (z ≡ None)
more_at [] zero z e = inr (refl, let q : Some None ≡ Some z = e in let is : None ≡ z = cc in sym is)
more_at [] (suc k) z e = absurd (nothing_is z e)
more_at (x ∷ xs) zero z e = inl e
more_at (x ∷ xs) (suc k) z e = by (more_at xs k z e)
  where
    by : (slice_get xs k ≡ Some z) ⊎ (k ≡ length xs) × (z ≡ None) → (slice_get xs k ≡ Some z) ⊎ (suc k ≡ suc (length xs)) × (z ≡ None)
    by (inl old) = inl old
    by (inr (here, none)) = inr (ap suc here, none)

first_set : (taken : List Places) (new : Places) → length taken ≡ 1 → get_or (slice_set taken 0 new) 0 [] ≡ new
first_set [] new e = absurd (omega (arith, e))
first_set (x ∷ xs) new e = refl

-- the next morsel is that of a pipe
morsel_is : (o : Option (List Row)) (k : ℕ) (m : ℕ × List Row) → option_map {U = ℕ × List Row} (λ rs. (k, rs)) o ≡ Some m → (m.0 ≡ k) × (o ≡ Some m.1)
morsel_is None k m e = absurd (nothing_is m e)
morsel_is (Some rs) k m e = let p : ℕ × List Row = (k, rs) in let is : p ≡ m = (let q : Some p ≡ Some m = e in cc) in (sym (ap (λ (z : ℕ × List Row). z.0) is), ap (λ (z : ℕ × List Row). Some z.1) is)

next_from : (ps : List Pipe) (m : ℕ × List Row) → next_morsel ps ≡ Some m → (x : Pipe) × Contains ps x × (m.0 ≡ x.next) × (morsel_at x.next x.got ≡ Some m.1)
next_from [] m e = absurd (nothing_is m e)
next_from (x ∷ ps) m e = by (has_next x) refl (next_from ps m)
  where
    at : (b : Bool) → has_next x ≡ b → cond b (option_map {U = ℕ × List Row} (λ rs. (x.next, rs)) (morsel_at x.next x.got)) (next_morsel ps) ≡ Some m
    at b h = sym (ap (λ b. cond b (option_map {U = ℕ × List Row} (λ rs. (x.next, rs)) (morsel_at x.next x.got)) (next_morsel ps)) h) ∙ e

    by : (b : Bool) → has_next x ≡ b → (next_morsel ps ≡ Some m → (y : Pipe) × Contains ps y × (m.0 ≡ y.next) × (morsel_at y.next y.got ≡ Some m.1)) → (y : Pipe) × Contains (x ∷ ps) y × (m.0 ≡ y.next) × (morsel_at y.next y.got ≡ Some m.1)
    by true h rest = let is = morsel_is (morsel_at x.next x.got) x.next m (at true h) in (x, contains_first x ps, is.0, is.1)
    by false h rest = let r = rest (at false h) in (r.0, contains_later x r.0 ps r.1, r.2, r.3)

-- THE NODE'S ONE INPUT
module _ (F : Functions) (w : World) (n : ℕ) (node : Node) (known : Known F w) (there : slice_get w.nodes n ≡ Some node) (is : IsSlotted node.node.kind) where
  pub inputs_one : length node.node.inputs ≡ 1
  inputs_one = one_in node.node.kind (length node.node.inputs) is (known.facts.sound.0 n node.node (in_shape w n node there)).inputs

  pub input_zero : (q : Pipe) → Enters w n q → q.wire.input ≡ 0
  input_zero q e = let short = slice_get_within node.node.inputs q.wire.input (q.wire.sender, q.wire.port) (input_of F w known.facts n node.node q (in_shape w n node there) e.0 e.1) in let one = inputs_one in omega (arith, short, one)

  pub taken_one : length node.progress.taken ≡ 1
  taken_one = (known.numbers n node there).inputs ∙ inputs_one

  pub slots_long : (q : Pipe) → Enters w n q → length (slots_at node 0) ≡ q.next
  slots_long q e = ap (λ i. length (slots_at node i)) (sym (input_zero q e)) ∙ (known.numbers n node there).slots q e.0 e.1 (slotted node.node.kind q.wire.input is)

  pub one_pipe : (q x : Pipe) → Enters w n q → Enters w n x → q ≡ x
  one_pipe q x e d = known.facts.one_input q x e.0 d.0 (e.1 ∙ sym d.1) (input_zero q e ∙ sym (input_zero x d))

-- A STEP OF A PHASE
module _ (F : Functions) (w v : World) (n : ℕ) (node y : Node) (kw : Known F w) (kv : Known F v) (shape : shape_of v ≡ shape_of w) (there : slice_get w.nodes n ≡ Some node) (at : slice_get v.nodes n ≡ Some y) (node_is : y.node ≡ node.node) (is : IsSlotted node.node.kind) (Takes Musts : Pipe → Type 0) (g : GoesOn Takes Musts w v) where
  schema_is : schema_of_input v y 0 ≡ schema_of_input w node 0
  schema_is = λ i. get_or (same_schemas w v node y shape node_is i) 0 []

  abbrev HasPartial : World → Node → List Row → Type 0
  HasPartial u x rs = (size : ℕ) × IsPartial F x.node x.node.kind 0 (rows_table (schema_of_input u x 0) rs ∷ []) size

  partial_on : (rs : List Row) → HasPartial w node rs → HasPartial v y rs
  partial_on rs (size, h) = (size, subst (λ (p : PhysicalNode). IsPartial F p p.kind 0 (rows_table (schema_of_input v y 0) rs ∷ []) size) (sym node_is) (subst (λ s. IsPartial F node.node node.node.kind 0 (rows_table s rs ∷ []) size) (sym schema_is) h))

  back : (q : Pipe) → Enters v n q → (x : Pipe) × Enters w n x × Goes Takes Musts x q
  back q e = let x = g q e.0 in (x.0, (x.1, ap (λ (u : Wire). u.receiver) (sym x.2.wire) ∙ e.1), x.2)

  -- a pipe goes on
  forth : (x : Pipe) → Enters w n x → (q : Pipe) × Enters v n q × Goes Takes Musts x q
  forth x e =
      let same : map joins_of w.pipes ≡ map joins_of v.pipes = kw.facts.wires ∙ ap (λ s. map joins_of (pipes_from s 0)) (sym shape) ∙ sym kv.facts.wires in
      let r = from_map joins_of (joins_of x) v.pipes (subst (λ js. Contains js (joins_of x)) same (contains_map joins_of x w.pipes e.0)) in
      let ends : r.0.wire.receiver ≡ n = ap (λ (j : Joins). j.receiver) r.2 ∙ e.1 in
      let z = back r.0 (r.1, ends) in
      (r.0, (r.1, ends), subst (λ a. Goes Takes Musts a r.0) (one_pipe F w n node kw there is z.0 x z.1 e) z.2)

  -- a piece that keeps a morsel goes on
  pub kept_on : (q : Piece) → IsKeptOf w n node 0 q → IsKeptOf v n y 0 q
  kept_on q (input, x, e, i, (rs, slot, work)) =
      let z = forth x e in (
        input,
        z.0,
        z.1,
        ap (λ (u : Wire). u.input) z.2.wire ∙ i,
        (rs, fills_at x.got z.0.got z.2.got q.number rs slot, work ∙ (λ k. let a : Work = record { task = keeps_task (sym node_is k); schemas = sym schema_is k ∷ []; tables = rs ∷ [] } in a)),
      )

  -- what stands in an old slot
  old_slot : KeepsMorsels F w n node 0 → (q : Pipe) (k : ℕ) (rs : List Row) → Enters v n q → slice_get (slots_at node 0) k ≡ Some (Some rs) → (slice_get q.got k ≡ Some (Some rs)) × HasPartial v y rs
  old_slot h q k rs e s =
      let x = back q e in
      let old = h.kept x.0 k rs x.1 (input_zero F w n node kw there is x.0 x.1) s in
      (fills_at x.0.got q.got x.2.got k rs old.0, partial_on rs (old.1, old.2))

  pub morsels_stay : w.ending ≡ running → y.progress.taken ≡ node.progress.taken → KeptOutsStay w v n → KeepsMorsels F w n node 0 → KeepsMorsels F v n y 0
  morsels_stay run taken stay h =
      record {
        kept = λ q k rs e i s. let z = old_slot h q k rs e (ap (λ t. slice_get (get_or t 0 []) k) (sym taken) ∙ s) in (z.0, z.1.0, z.1.1);
        awaited = λ on k s. let p = h.awaited run k (ap (λ t. slice_get (get_or t 0 []) k) (sym taken) ∙ s) in (p.0, stay on p.0 p.1 p.2 p.5, p.2, p.3, p.4, p.5);
      }

  -- IT CLAIMS A MORSEL
  module _ (i worker : ℕ) (c : Claim) (m : ℕ × List Row) (next : next_morsel (inputs_in_phase w n i) ≡ Some m) (number : c.number ≡ m.0) (task : c.task ≡ keeps_task node.node) (schemas : c.schemas ≡ get_or (schemas_for w node) i [] ∷ []) (tables : c.tables ≡ m.1 ∷ []) where
    pub source : (x : Pipe) × Enters w n x × (x.wire.input ≡ i) × (m.0 ≡ x.next) × (slice_get x.got x.next ≡ Some (Some m.1))
    source =
        let x = next_from (inputs_in_phase w n i) m next in
        let k = was_kept (λ (p : Pipe). is_input n i p && p.in_phase) x.0 w.pipes x.1 in
        let a = both_true (is_input n i x.0) x.0.in_phase k.1 in
        let b = both_true (nat_eq x.0.wire.receiver n) (nat_eq x.0.wire.input i) a.0 in
        (x.0, (k.0, same_number x.0.wire.receiver n b.0), same_number x.0.wire.input i b.1, x.2, slot_is (slice_get x.0.got x.0.next) m.1 x.3)
      where
        slot_is : (o : Option (Option (List Row))) (rs : List Row) → flat o ≡ Some rs → o ≡ Some (Some rs)
        slot_is None rs e = absurd (nothing_is rs e)
        slot_is (Some slot) rs e = ap Some e

    at_zero : i ≡ 0
    at_zero = sym source.2 ∙ input_zero F w n node kw there is source.0 source.1

    pub claimed_kept : IsKeptOf v n y 0 (piece_of n i worker c)
    claimed_kept =
        kept_on (piece_of n i worker c) (
          at_zero,
          source.0,
          source.1,
          input_zero F w n node kw there is source.0 source.1,
          (m.1, ap (slice_get source.0.got) (number ∙ source.3) ∙ source.4, (λ k. let a : Work = record { task = task k; schemas = schemas k; tables = tables k } in a) ∙ (λ k. let a : Work = record { task = keeps_task node.node; schemas = get_or (schemas_for w node) (at_zero k) [] ∷ []; tables = m.1 ∷ [] } in a)),
        )

    pub morsels_claimed : w.ending ≡ running → y.progress.taken ≡ with_slot i node.progress.taken → Contains v.outs (piece_of n i worker c) → ((x : Piece) → Contains w.outs x → Contains v.outs x) → KeepsMorsels F w n node 0 → KeepsMorsels F v n y 0
    morsels_claimed run taken new stay h = record { kept = λ q k rs e j s. of q k rs e (more_at (slots_at node 0) k (Some rs) (ap (λ xs. slice_get xs k) (sym grown) ∙ s)); awaited = λ on k s. waits k (drop_none k (more_at (slots_at node 0) k None (ap (λ xs. slice_get xs k) (sym grown) ∙ s))) }
      where
        grown : slots_at y 0 ≡ slots_at node 0 ++ None ∷ []
        grown = ap (λ t. get_or t 0 []) taken ∙ ap (λ j. get_or (with_slot j node.progress.taken) 0 []) at_zero ∙ first_set node.progress.taken (slots_at node 0 ++ None ∷ []) (taken_one F w n node kw there is)

        of : (q : Pipe) (k : ℕ) (rs : List Row) → Enters v n q → (slice_get (slots_at node 0) k ≡ Some (Some rs)) ⊎ (k ≡ length (slots_at node 0)) × (Some rs ≡ None) → (slice_get q.got k ≡ Some (Some rs)) × (size : ℕ) × IsPartial F y.node y.node.kind 0 (rows_table (schema_of_input v y 0) rs ∷ []) size
        of q k rs e (inl old) = let z = old_slot h q k rs e old in (z.0, z.1.0, z.1.1)
        of q k rs e (inr (here, none)) = absurd (nothing_is rs (sym none))

        none : Option (List Row)
        none = None

        drop_none : (k : ℕ) → (slice_get (slots_at node 0) k ≡ Some None) ⊎ (k ≡ length (slots_at node 0)) × (none ≡ none) → (slice_get (slots_at node 0) k ≡ Some None) ⊎ (k ≡ length (slots_at node 0))
        drop_none k (inl old) = inl old
        drop_none k (inr (here, same)) = inr here

        waits : (k : ℕ) → (slice_get (slots_at node 0) k ≡ Some None) ⊎ (k ≡ length (slots_at node 0)) → (x : Piece) × Contains v.outs x × (x.node ≡ n) × (x.input ≡ 0) × (x.number ≡ k) × IsTrue (keeps_one x.task)
        waits k (inl old) = let p = h.awaited run k old in (p.0, stay p.0 p.1, p.2, p.3, p.4, p.5)
        waits k (inr here) = (piece_of n i worker c, new, refl, at_zero, number ∙ source.3 ∙ sym (slots_long F w n node kw there is source.0 source.1) ∙ sym here, ap keeps_one task)

  -- A PARTIAL IS PUT IN
  pub morsels_filled : w.ending ≡ running → (q : Piece) (size : ℕ) → Contains w.outs q → q.node ≡ n → IsKeptOf w n node 0 q → IsResult F q (partial size) → y.progress.taken ≡ filled_slot q.input q.number (get_or q.tables 0 []) node.progress.taken
      → ((x : Piece) → Contains w.outs x → x.worker ≢ q.worker → Contains v.outs x) → KeepsMorsels F w n node 0 → KeepsMorsels F v n y 0
  morsels_filled run q size cq at_q (input, z, ez, iz, (rows, slot, work)) result taken stay h = record { kept = λ p k rs e j s. of p k rs e (cases_eq k q.number) s; awaited = λ on k s. waits k (cases_eq k q.number) s }
    where
      grown : slots_at y 0 ≡ slice_set (slots_at node 0) q.number (Some rows)
      grown = ap (λ t. get_or t 0 []) taken ∙ (λ i. get_or (filled_slot (input i) q.number (get_or (work i).tables 0 []) node.progress.taken) 0 []) ∙ first_set node.progress.taken (slice_set (slots_at node 0) q.number (Some rows)) (taken_one F w n node kw there is)

      -- its slot waited
      waited : slice_get (slots_at node 0) q.number ≡ Some None
      waited =
          let here : slice_get w.nodes q.node ≡ Some node = ap (slice_get w.nodes) at_q ∙ there in
          sym (λ i. slice_get (slots_of (here i) (input i)) q.number) ∙ (kw.facts.expected q cq).0 (ap (λ (x : Work). keeps_one x.task) work)

      -- the one table has a partial
      part : HasPartial w node rows
      part =
          let r : IsResultOf F (keeps_task node.node) q.input (rows_table (schema_of_input w node 0) rows ∷ []) (rows ∷ []) (partial size) = subst (λ (x : Work). IsResultOf F x.task q.input (whole_tables x.schemas x.tables) x.tables (partial size)) work result in
          (size, subst (λ i. IsPartial F node.node node.node.kind i (rows_table (schema_of_input w node 0) rows ∷ []) size) input r)

      of : (p : Pipe) (k : ℕ) (rs : List Row) → Enters v n p → (k ≡ q.number) ⊎ (k ≢ q.number) → slice_get (slots_at y 0) k ≡ Some (Some rs) → (slice_get p.got k ≡ Some (Some rs)) × (size : ℕ) × IsPartial F y.node y.node.kind 0 (rows_table (schema_of_input v y 0) rs ∷ []) size
      of p k rs e (inr apart) s = let o = old_slot h p k rs e (sym (set_other (slots_at node 0) q.number k (Some rows) apart) ∙ ap (λ xs. slice_get xs k) (sym grown) ∙ s) in (o.0, o.1.0, o.1.1)
      of p k rs e (inl here) s =
          let x = back p e in
          let one : z ≡ x.0 = one_pipe F w n node kw there is z x.0 ez x.1 in
          let set : slice_get (slots_at y 0) k ≡ Some (Some rows) = ap (λ xs. slice_get xs k) grown ∙ ap (slice_get (slice_set (slots_at node 0) q.number (Some rows))) here ∙ set_here (slots_at node 0) q.number None (Some rows) waited in
          let both : Some (Some rs) ≡ Some (Some rows) = sym s ∙ set in
          let same : rs ≡ rows = cc in
          let came : slice_get p.got k ≡ Some (Some rows) = ap (slice_get p.got) here ∙ fills_at x.0.got p.got x.2.got q.number rows (ap (λ (u : Pipe). slice_get u.got q.number) (sym one) ∙ slot) in
          let part_on = partial_on rows part in
          (came ∙ ap (λ a. Some (Some a)) (sym same), part_on.0, subst (λ a. IsPartial F y.node y.node.kind 0 (rows_table (schema_of_input v y 0) a ∷ []) part_on.0) (sym same) part_on.1)

      waits : (k : ℕ) → (k ≡ q.number) ⊎ (k ≢ q.number) → slice_get (slots_at y 0) k ≡ Some None → (x : Piece) × Contains v.outs x × (x.node ≡ n) × (x.input ≡ 0) × (x.number ≡ k) × IsTrue (keeps_one x.task)
      waits k (inl here) s =
          let set : slice_get (slots_at y 0) k ≡ Some (Some rows) = ap (λ xs. slice_get xs k) grown ∙ ap (slice_get (slice_set (slots_at node 0) q.number (Some rows))) here ∙ set_here (slots_at node 0) q.number None (Some rows) waited in
          let both : Some None ≡ Some (Some rows) = sym s ∙ set in
          absurd (let no : None ≡ Some rows = cc in nothing_is rows no)
      waits k (inr apart) s =
          let p = h.awaited run k (sym (set_other (slots_at node 0) q.number k (Some rows) apart) ∙ ap (λ xs. slice_get xs k) (sym grown) ∙ s) in
          (p.0, stay p.0 p.1 (λ same. apart (sym p.4 ∙ ap (λ (x : Piece). x.number) (one_worker F w kw p.0 q p.1 cq same))), p.2, p.3, p.4, p.5)
