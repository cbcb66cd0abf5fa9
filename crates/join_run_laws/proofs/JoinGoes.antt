-- What an equi join gives stays so while its inputs go on: its right rows stay, and its left morsels stay under their numbers.
use Rattle.std.proofs.Common.{◌≡◌, ℕ, zero, suc, ◌<◌, ◌≤◌, ◌⊎◌, List, [], ◌∷◌, length, Some, None, sym, ap, subst, ◌∙◌, inl, inr, arith}
use Rattle.std.proofs.lemmas.List.{take_all}
use Rattle.std.specs.Prelude.{Contains, IsFalse, get_or, slice_get}
use Rattle.ps_frame.specs.Functions.{Functions}
use Rattle.ps_frame.specs.Tables.{Row}
use Rattle.ps_meaning.specs.Sound.{input_schemas}
use Rattle.ps_meaning.specs.Steps.{JoinStep}
use Rattle.ps_turns.specs.Claims.{owes_last}
use Rattle.ps_turns.specs.Results.{IsResult, IsResultOf}
use Rattle.ps_turns.specs.Tables.{whole_tables}
use Rattle.ps_turns.specs.Tasks.{Piece, gives_last, good, keeps, probes}
use Rattle.ps_world.specs.World.{Node, Pipe, World, rows_in_order, schemas_for, shape_of}
use Rattle.world_claims.specs.Numbering.{Known}
use Rattle.world_families.specs.Joins.{GivesLast, HasAllRight, HasRight, IsJoinOf, IsJoinWork, Probes}
use Rattle.world_families.specs.Keepers.{IsKeptOf, slots_at}
use Rattle.world_families.specs.Work.{AllComplete, Enters, Gives, IsComplete, Leaves, Work, work_of}
use Rattle.family_pipes.proofs.Outputs.{MayCome, gives_keep}
use Rattle.join_run_laws.proofs.JoinInputs.{same_left, same_right}
use Rattle.passing_runs.proofs.Slots.{Came, Fills, Places}
use Rattle.orderly_worlds.proofs.ReadRows.{take_fills}

-- what came stays under its number
pub fills_at : (xs ys : Places) → Fills xs ys → (k : ℕ) (rs : List Row) → slice_get xs k ≡ Some (Some rs) → slice_get ys k ≡ Some (Some rs)
fills_at [] ys f k rs e = absurd (let none : None ≡ Some (Some rs) = e in cc)
fills_at (None ∷ xs) [] f k rs e = absurd f
fills_at (Some a ∷ xs) [] f k rs e = absurd f
fills_at (None ∷ xs) (y ∷ ys) f zero rs e = absurd (let none : Some None ≡ Some (Some rs) = e in cc)
fills_at (None ∷ xs) (y ∷ ys) f (suc k) rs e = fills_at xs ys f k rs e
fills_at (Some a ∷ xs) (y ∷ ys) f zero rs e = ap Some f.0 ∙ e
fills_at (Some a ∷ xs) (y ∷ ys) f (suc k) rs e = fills_at xs ys f.1 k rs e

-- what came in full stays as it is, where nothing more came
pub fills_all : (xs ys : Places) → Fills xs ys → Came xs (length xs) → length ys ≡ length xs → ys ≡ xs
fills_all xs ys f c e = sym (take_all (length xs) ys (omega (arith, e))) ∙ take_fills xs ys (length xs) f c ∙ take_all (length xs) xs (omega arith)

-- an input of a join beside the one before
pub record InputGoes (x y : Pipe) : Type 0 where
  pub fills : Fills x.got y.got
  pub reads : x.next ≤ y.next
  pub rests : IsComplete x → IsComplete y × (y.got ≡ x.got)

pub same_schemas : (w v : World) (x y : Node) → shape_of v ≡ shape_of w → y.node ≡ x.node → schemas_for v y ≡ schemas_for w x
same_schemas w v x y shape node = λ i. input_schemas (shape i) (node i)

module _ (F : Functions) (w v : World) (n : ℕ) (node y : Node) (j : JoinStep) (kw : Known F w) (shape : shape_of v ≡ shape_of w) (same : y.node ≡ node.node)
    (xl xr yl yr : Pipe) (ox : IsJoinOf w n xl xr) (oy : IsJoinOf v n yl yr) (gl : InputGoes xl yl) (gr : InputGoes xr yr) (slots : HasRight node xr → slots_at y 1 ≡ slots_at node 1) where
  schemas : schemas_for w node ≡ schemas_for v y
  schemas = sym (same_schemas w v node y shape same)

  pub right_on : HasRight node xr → HasRight y yr
  right_on h = let r = gr.rests h.0 in (r.0, slots h ∙ h.1 ∙ sym r.1)

  pub work_on : (k : ℕ) (x : Work) → IsJoinWork w n node j k x → IsJoinWork v n y j k x
  work_on k x (a, c, io, has, work) = (yl, yr, oy, right_on here, by work)
    where
      el : a ≡ xl
      el = same_left F w n xl xr kw ox a io.left_enters.0 io.left_enters.1

      er : c ≡ xr
      er = same_right F w n xl xr kw ox c io.right_enters.0 io.right_enters.1

      here : HasRight node xr
      here = subst (HasRight node) er has

      right_rows : rows_in_order c.got ≡ rows_in_order yr.got
      right_rows = ap (λ (p : Pipe). rows_in_order p.got) er ∙ ap rows_in_order (sym (gr.rests here.0).1)

      by : Probes w node j a c k x ⊎ GivesLast w node j a c k x → Probes v y j yl yr k x ⊎ GivesLast v y j yl yr k x
      by (inl (taken, rs, at, e)) =
          let before : k < xl.next = subst (λ (p : Pipe). k < p.next) el taken in
          let on = gl.reads in
          inl (
            omega (arith, before, on),
            rs,
            fills_at xl.got yl.got gl.fills k rs (ap (λ (p : Pipe). slice_get p.got k) (sym el) ∙ at),
            e ∙ (λ i. let z : Work = record { task = probes (sym same i) j; schemas = schemas i; tables = rs ∷ right_rows i ∷ [] } in z),
          )
      by (inr (fills, complete, at, e)) =
          let r = gl.rests (subst IsComplete el complete) in
          let got : a.got ≡ yl.got = ap (λ (p : Pipe). p.got) el ∙ sym r.1 in
          inr (fills, r.0, at ∙ ap length got, e ∙ (λ i. let z : Work = record { task = gives_last (sym same i) j; schemas = schemas i; tables = rows_in_order (got i) ∷ right_rows i ∷ [] } in z))

  pub kept_on : (q : Piece) → IsKeptOf w n node 1 q → IsKeptOf v n y 1 q
  kept_on q (input, z, e, i, (rs, at, work)) =
      let er = same_right F w n xl xr kw ox z e i in (
        input,
        yr,
        oy.right_enters.0,
        oy.right_enters.1,
        (
          rs,
          fills_at xr.got yr.got gr.fills q.number rs (ap (λ (p : Pipe). slice_get p.got q.number) (sym er) ∙ at),
          work ∙ (λ k. let x : Work = record { task = keeps (sym same k); schemas = get_or (schemas k) 1 [] ∷ []; tables = rs ∷ [] } in x),
        ),
      )

  -- a partial is no rows
  pub silent : (q : Piece) (rs : List Row) → IsKeptOf w n node 1 q → IsResult F q (good rs) → ⊥
  silent q rs (input, z, e, i, (b, at, work)) r = subst (λ (x : Work). IsResultOf F x.task q.input (whole_tables x.schemas x.tables) x.tables (good rs)) work r

  abbrev Given : World → Node → Type 0
  Given u x = AllComplete u n × HasAllRight u n x × IsFalse (owes_last j x.progress)

  pub given_on : ((p : Pipe) → Enters v n p → (p ≡ yl) ⊎ (p ≡ yr)) → owes_last j y.progress ≡ owes_last j node.progress → Given w node → Given v y
  given_on two owes (all, has, none) = (complete, rights, owes ∙ none)
    where
      complete : AllComplete v n
      complete p e = by (two p e)
        where
          by : (p ≡ yl) ⊎ (p ≡ yr) → IsComplete p
          by (inl is) = subst IsComplete (sym is) (gl.rests (all xl ox.left_enters.0)).0
          by (inr is) = subst IsComplete (sym is) (gr.rests (all xr ox.right_enters.0)).0

      rights : HasAllRight v n y
      rights p e i = by (two p e)
        where
          here : HasRight y yr
          here = right_on (has xr ox.right_enters.0 ox.right_enters.1)

          by : (p ≡ yl) ⊎ (p ≡ yr) → HasRight y p
          by (inl is) = absurd (let zero : p.wire.input ≡ 0 = ap (λ (q : Pipe). q.wire.input) is ∙ oy.left_enters.1 in omega (arith, zero, i))
          by (inr is) = subst (HasRight y) (sym is) here

  -- WHAT IT GIVES
  pub gives_on : ((z : Pipe) (k : ℕ) (rs : List Row) → Leaves v n z → slice_get z.got k ≡ Some (Some rs) → ((x : Pipe) × Leaves w n x × (slice_get x.got k ≡ Some (Some rs))) ⊎ MayCome F w n k rs)
      → ((q : Piece) → Contains v.outs q → q.node ≡ n → Contains w.outs q ⊎ IsJoinWork v n y j q.gives (work_of q) ⊎ IsKeptOf v n y 1 q)
      → ((z : Pipe) → Leaves v n z → IsComplete z → ((x : Pipe) × Leaves w n x × IsComplete x × (Given w node → Given v y)) ⊎ Given v y)
      → Gives F w n (IsJoinWork w n node j) (IsKeptOf w n node 1) (Given w node) → Gives F v n (IsJoinWork v n y j) (IsKeptOf v n y 1) (Given v y)
  gives_on came pieces completes g = gives_keep F w v n (IsJoinWork w n node j) (IsJoinWork v n y j) (IsKeptOf w n node 1) (IsKeptOf v n y 1) (Given w node) (Given v y) work_on kept_on silent came pieces completes g
