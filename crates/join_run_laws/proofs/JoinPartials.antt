-- A partial of a right morsel is put in: what is kept of an equi join stays.
use Rattle.std.proofs.Common.{◌≡◌, ◌≢◌, ℕ, suc, ◌⊎◌, true, List, [], ◌∷◌, length, take, Option, Some, None, refl, sym, ap, subst, ◌∙◌, inl, inr, arith}
use Rattle.std.specs.Prelude.{Contains, IsTrue, get_or, slice_get, slice_set}
use Rattle.std.proofs.lemmas.Bool.{cases_eq}
use Rattle.ps_frame.specs.Functions.{Functions}
use Rattle.ps_frame.specs.Tables.{Row}
use Rattle.ps_meaning.specs.Cases.{rows_table}
use Rattle.ps_meaning.specs.Joins.{fills_right}
use Rattle.ps_meaning.specs.Shape.{PhysicalNode, equi_join}
use Rattle.ps_meaning.specs.Sound.{HasInputs}
use Rattle.ps_meaning.specs.Steps.{JoinStep}
use Rattle.ps_turns.specs.Claims.{filled_slot}
use Rattle.ps_turns.specs.Progress.{Progress, is_giving}
use Rattle.ps_turns.specs.Results.{IsPartial, IsResult, IsResultOf}
use Rattle.ps_turns.specs.Tables.{whole_tables}
use Rattle.ps_turns.specs.Tasks.{Piece, keeps, partial}
use Rattle.ps_world.specs.Facts.{keeps_one, slots_of}
use Rattle.ps_world.specs.World.{Node, Pipe, World, running, shape_of}
use Rattle.world_claims.specs.Numbering.{Known}
use Rattle.world_facts.proofs.Slots.{set_here, set_other}
use Rattle.world_laws.proofs.Answered.{in_shape}
use Rattle.world_families.specs.Joins.{HasRight, HoldsJoin}
use Rattle.world_families.specs.Keepers.{IsKeptOf, schema_of_input, slots_at}
use Rattle.world_families.specs.Work.{Enters, Work, work_of}
use Rattle.family_pipes.proofs.SourceSteps.{StepOf}
use Rattle.join_run_laws.proofs.JoinInputs.{JoinAt, same_left, same_right}
use Rattle.join_run_laws.proofs.JoinGoes.{InputGoes, fills_at, gives_on, same_schemas}
use Rattle.join_run_laws.proofs.JoinStill.{came, completes, kept_partial, left_goes, left_on, right_goes_on, turn_on}
use Rattle.orderly_worlds.proofs.Goes.{GoesOn, NoneTaken}
use Rattle.orderly_worlds.proofs.Orderly.{Orderly}
use Rattle.orderly_worlds.proofs.ReadRows.{came_to, take_fills}
use Rattle.orderly_worlds.proofs.Seen.{OutsWere, TakenElsewhere}
use Rattle.join_laws.proofs.Walk.{Slots}

-- pieces that keep other morsels stay out
abbrev pub OthersStay : World → World → ℕ → Piece → Type 0
OthersStay w v n q = v.ending ≡ running → (w.ending ≡ running) × ((x : Piece) → Contains w.outs x → x.node ≡ n → IsTrue (keeps_one x.task) → x.number ≢ q.number → Contains v.outs x)

second_set : (taken : List Slots) (k : ℕ) (rs : List Row) → length taken ≡ 2 → (get_or (filled_slot 1 k rs taken) 1 [] ≡ slice_set (get_or taken 1 []) k (Some rs)) × (get_or (filled_slot 1 k rs taken) 0 [] ≡ get_or taken 0 [])
second_set [] k rs e = absurd (omega arith)
second_set (a ∷ []) k rs e = absurd (omega arith)
second_set (a ∷ b ∷ ts) k rs e = (refl, refl)

module _ (F : Functions) (w v : World) (n : ℕ) (node y : Node) (j : JoinStep) (o : Orderly F w) (kv : Known F v) (begun : w.is_open ≡ true) (shape : shape_of v ≡ shape_of w) (there : slice_get w.nodes n ≡ Some node) (is_one : node.node.kind ≡ equi_join j) (same : y.node ≡ node.node)
    (X : JoinAt F w n node j) (Y : JoinAt F v n y j) (h : HoldsJoin F w n node j)
    (q : Piece) (cq : Contains w.outs q) (at : q.node ≡ n) (of : IsKeptOf w n node 1 q) (size : ℕ) (result : IsResult F q (partial size))
    (g : GoesOn (TakenElsewhere n) NoneTaken w v) (s : StepOf F w v n node) (progress : y.progress ≡ record node.progress { taken = filled_slot 1 q.number (get_or q.tables 0 []) node.progress.taken }) (outs : OutsWere w v n) (stay : OthersStay w v n q) where
  abbrev xl : Pipe
  xl = X.left

  abbrev xr : Pipe
  xr = X.right

  abbrev yl : Pipe
  yl = Y.left

  abbrev yr : Pipe
  yr = Y.right

  abbrev rs : List Row
  rs = get_or q.tables 0 []

  some : (x : Pipe) → TakenElsewhere n x → (b : List Row) × (slice_get x.got x.next ≡ Some (Some b))
  some x t = t.1

  gl : InputGoes xl yl
  gl = left_on F w v n node y j o kv begun shape there is_one same X Y (TakenElsewhere n) NoneTaken some g

  gr : InputGoes xr yr
  gr = right_goes_on F w v n node y j o kv begun shape there is_one same X Y (TakenElsewhere n) NoneTaken some g

  two_slots : length node.progress.taken ≡ 2
  two_slots = (o.known.numbers n node there).inputs ∙ subst (λ k. HasInputs k (length node.node.inputs)) is_one (o.known.facts.sound.0 n node.node (in_shape w n node there)).inputs

  -- the piece's morsel
  record Kept : Type 0 where
    rows : List Row
    slot : slice_get xr.got q.number ≡ Some (Some rows)
    work : work_of q ≡ record { task = keeps node.node; schemas = schema_of_input w node 1 ∷ []; tables = rows ∷ [] }

  the_kept : Kept
  the_kept = let e = same_right F w n xl xr o.known X.of of.1 of.2 of.3 in record { rows = of.4.0; slot = ap (λ (p : Pipe). slice_get p.got q.number) (sym e) ∙ of.4.1; work = of.4.2 }

  rows_are : rs ≡ the_kept.rows
  rows_are = ap (λ (x : Work). get_or x.tables 0 []) the_kept.work

  has_partial : IsPartial F node.node node.node.kind 1 (rows_table (schema_of_input w node 1) rs ∷ []) size
  has_partial =
      let r : IsResultOf F (keeps node.node) q.input (rows_table (schema_of_input w node 1) the_kept.rows ∷ []) (the_kept.rows ∷ []) (partial size) = subst (λ (x : Work). IsResultOf F x.task q.input (whole_tables x.schemas x.tables) x.tables (partial size)) the_kept.work result in
      subst (λ b. IsPartial F node.node node.node.kind 1 (rows_table (schema_of_input w node 1) b ∷ []) size) (sym rows_are) (subst (λ i. IsPartial F node.node node.node.kind i (rows_table (schema_of_input w node 1) the_kept.rows ∷ []) size) of.0 r)

  -- its slot waits
  waits : slice_get (slots_at node 1) q.number ≡ Some None
  waits =
      let here : slice_get w.nodes q.node ≡ Some node = ap (slice_get w.nodes) at ∙ there in
      sym (λ i. slice_get (slots_of (here i) (of.0 i)) q.number) ∙ (o.known.facts.expected q cq).0 (subst (λ t. IsTrue (keeps_one t)) (sym (ap (λ (x : Work). x.task) the_kept.work)) refl)

  pub waits_not : HasRight node xr → ⊥
  waits_not r = let e : Some None ≡ Some (Some the_kept.rows) = sym waits ∙ ap (λ xs. slice_get xs q.number) r.1 ∙ the_kept.slot in cc

  grown : slots_at y 1 ≡ slice_set (slots_at node 1) q.number (Some rs)
  grown = ap (λ (a : Progress). get_or a.taken 1 []) progress ∙ (second_set node.progress.taken q.number rs two_slots).0

  left_slots : slots_at y 0 ≡ slots_at node 0
  left_slots = ap (λ (a : Progress). get_or a.taken 0 []) progress ∙ (second_set node.progress.taken q.number rs two_slots).1

  stage : y.progress.stage ≡ node.progress.stage
  stage = ap (λ (a : Progress). a.stage) progress

  slots : HasRight node xr → slots_at y 1 ≡ slots_at node 1
  slots r = absurd (waits_not r)

  next_left : yl.next ≡ xl.next
  next_left = by (left_goes F w v n node y j o kv begun shape there is_one same X Y (TakenElsewhere n) NoneTaken some g).next
    where
      by : (yl.next ≡ xl.next) ⊎ (yl.next ≡ suc xl.next) × TakenElsewhere n xl → yl.next ≡ xl.next
      by (inl e) = e
      by (inr (e, t)) = absurd (t.0 X.of.left_enters.0.1)

  pub join_keeps_partial : HoldsJoin F v n y j
  join_keeps_partial =
      record {
        turn = turn_on F w v n node y j o kv begun shape there is_one same X Y (TakenElsewhere n) NoneTaken some g stage h.turn;
        keeps_right = record { kept = kept; awaited = awaited };
        keeps_left = λ fills p e z. subst (λ (u : Pipe). slots_at y 0 ≡ take u.next u.got) (sym (same_left F v n yl yr kv Y.of p e z)) (lefts fills);
        has_right = λ t. absurd (waits_not (h.has_right (ap is_giving (sym stage) ∙ t) xr X.of.right_enters.0 X.of.right_enters.1));
        gives = gives_on F w v n node y j o.known shape same xl xr yl yr X.of Y.of gl gr slots (came F w v n node y j o kv begun shape there is_one same X Y (TakenElsewhere n) NoneTaken some g s) (λ x cx e. inl (outs x cx e))
            (completes F w v n node y j o kv begun shape there is_one same X Y (TakenElsewhere n) NoneTaken some g s (λ d. absurd (waits_not (d.1 xr X.of.right_enters.0 X.of.right_enters.1)))) h.gives;
      }
    where
      lefts : IsTrue (fills_right j.args.how) → slots_at y 0 ≡ take yl.next yl.got
      lefts fills = left_slots ∙ h.keeps_left fills xl X.of.left_enters.0 X.of.left_enters.1 ∙ sym (take_fills xl.got yl.got xl.next gl.fills (came_to F w o.known xl X.of.left_enters.0.0)) ∙ ap (λ k. take k yl.got) (sym next_left)

      -- the slot that is filled, or another one
      of_number : (k : ℕ) (z : Option (List Row)) → slice_get (slice_set (slots_at node 1) q.number (Some rs)) k ≡ Some z → ((k ≡ q.number) × (Some rs ≡ z)) ⊎ (k ≢ q.number) × (slice_get (slots_at node 1) k ≡ Some z)
      of_number k z e = by (cases_eq k q.number)
        where
          by : (k ≡ q.number) ⊎ (k ≢ q.number) → ((k ≡ q.number) × (Some rs ≡ z)) ⊎ (k ≢ q.number) × (slice_get (slots_at node 1) k ≡ Some z)
          by (inl here) =
              let two : Some (Some rs) ≡ Some z = sym (set_here (slots_at node 1) q.number None (Some rs) waits) ∙ ap (slice_get (slice_set (slots_at node 1) q.number (Some rs))) (sym here) ∙ e in
              inl (here, let is : Some rs ≡ z = cc in is)
          by (inr other) = inr (other, sym (set_other (slots_at node 1) q.number k (Some rs) other) ∙ e)

      schema : schema_of_input w node 1 ≡ schema_of_input v y 1
      schema = ap (λ ss. get_or ss 1 []) (sym (same_schemas w v node y shape same))

      kept : (p : Pipe) (k : ℕ) (b : List Row) → Enters v n p → p.wire.input ≡ 1 → slice_get (slots_at y 1) k ≡ Some (Some b) → (slice_get p.got k ≡ Some (Some b)) × (size : ℕ) × IsPartial F y.node y.node.kind 1 (rows_table (schema_of_input v y 1) b ∷ []) size
      kept p k b e z here = by (of_number k (Some b) (ap (λ xs. slice_get xs k) (sym grown) ∙ here))
        where
          ep : p ≡ yr
          ep = same_right F v n yl yr kv Y.of p e z

          by : ((k ≡ q.number) × (Some rs ≡ Some b)) ⊎ (k ≢ q.number) × (slice_get (slots_at node 1) k ≡ Some (Some b)) → (slice_get p.got k ≡ Some (Some b)) × (size : ℕ) × IsPartial F y.node y.node.kind 1 (rows_table (schema_of_input v y 1) b ∷ []) size
          by (inl (is, t)) =
              let same_rows : rs ≡ b = cc in (
                ap (λ (u : Pipe). slice_get u.got k) ep ∙ fills_at xr.got yr.got gr.fills k b (ap (slice_get xr.got) is ∙ the_kept.slot ∙ ap (λ xs. Some (Some xs)) (sym rows_are ∙ same_rows)),
                size,
                subst (λ (p : PhysicalNode). IsPartial F p p.kind 1 (rows_table (schema_of_input v y 1) b ∷ []) size) (sym same) (subst (λ t. IsPartial F node.node node.node.kind 1 t size) (λ i. rows_table (schema i) (same_rows i) ∷ []) has_partial),
              )
          by (inr (other, t)) =
              let a = kept_partial F w v n node y j o kv begun shape there is_one same X Y (TakenElsewhere n) NoneTaken some g k b h.keeps_right t in
              (ap (λ (u : Pipe). slice_get u.got k) ep ∙ a.0, a.1, a.2)

      awaited : v.ending ≡ running → (k : ℕ) → slice_get (slots_at y 1) k ≡ Some None → (x : Piece) × Contains v.outs x × (x.node ≡ n) × (x.input ≡ 1) × (x.number ≡ k) × IsTrue (keeps_one x.task)
      awaited run k here = by (of_number k None (ap (λ xs. slice_get xs k) (sym grown) ∙ here))
        where
          by : ((k ≡ q.number) × (Some rs ≡ None)) ⊎ (k ≢ q.number) × (slice_get (slots_at node 1) k ≡ Some None) → (x : Piece) × Contains v.outs x × (x.node ≡ n) × (x.input ≡ 1) × (x.number ≡ k) × IsTrue (keeps_one x.task)
          by (inl (is, t)) = absurd (let e : Some rs ≡ None = t in cc)
          by (inr (other, t)) = let st = stay run in let a = h.keeps_right.awaited st.0 k t in (a.0, st.1 a.0 a.1 a.2 a.5 (λ e. other (sym a.4 ∙ e)), a.2, a.3, a.4, a.5)
