-- A node of its own behind others: it takes the case of a step over the streams that it reads.
use Rattle.std.proofs.Common.{◌≡◌, ℕ, ◌+◌, ◌-◌, ◌<◌, ◌≤◌, ◌⊎◌, Bool, false, List, [], ◌∷◌, ◌++◌, length, Option, Some, refl, sym, ap, subst, ◌∙◌, inl, inr, arith, length-append}
use Rattle.std.proofs.lemmas.Option.{same_Some}
use Rattle.std.specs.Prelude.{slice_get, if◌then◌else◌}
use Rattle.std.specs.List.{AllByRecursion}
use Rattle.ps_frame.specs.Aggregates.{max_rows}
use Rattle.ps_frame.specs.Functions.{Functions}
use Rattle.ps_frame.specs.Tables.{Fields, Table}
use Rattle.ps_frame.proofs.Seams.{slice_get-behind}
use Rattle.ps_meaning.specs.Cases.{Case, GivesBeforeCut, cut_by, projected}
use Rattle.ps_meaning.specs.Meaning.{IsLargeCase, IsLargeStep}
use Rattle.ps_meaning.specs.Schemas.{names_of}
use Rattle.ps_meaning.specs.Shape.{IsLargeAt, IsLargeByStep, IsPhysicalChoice, PhysicalBefore, PhysicalCase, PhysicalKind, PhysicalMayGive, PhysicalNode, Shape, as_step, cut_of, input_tables, is_join, narrowed, tables_for}
use Rattle.ps_meaning.specs.Steps.{Step, step_cut}
use Rattle.ps_meaning.proofs.CutEnds.{by_shorter}
use Rattle.ps_rules.specs.Slots.{State, Stream, insert_node}
use Rattle.step_keeps.specs.Kept.{EndsAsStep, HaveRows, IsMadeFor, KeepsStep, ShowsOnlyStep, tables_from}

-- the one node behind a shape
module _ (before : Shape) (p : PhysicalNode) where
  last_number : (n : ℕ) → length before ≤ n → n < length (before ++ p ∷ []) → n ≡ length before
  last_number n low high = let long : length (before ++ p ∷ []) ≡ length before + 1 = length-append before (p ∷ []) in omega arith

  pub last_node : slice_get (before ++ p ∷ []) (length before) ≡ Some p
  last_node = let first : length before - length before ≡ 0 = omega arith in slice_get-behind before (p ∷ []) (length before) (omega arith) ∙ ap (slice_get (p ∷ [])) first

  node_is : (n : ℕ) (q : PhysicalNode) → length before ≤ n → n < length (before ++ p ∷ []) → slice_get (before ++ p ∷ []) n ≡ Some q → p ≡ q
  node_is n q low high e = same_Some p q (sym (ap (slice_get (before ++ p ∷ [])) (last_number n low high) ∙ last_node) ∙ e)

  pub last_there : length before < length (before ++ p ∷ [])
  last_there = let long : length (before ++ p ∷ []) ≡ length before + 1 = length-append before (p ∷ []) in omega arith

module _ (F : Functions) (at : ℕ) (step : Step) (kind : PhysicalKind) (schema : Fields) (inputs : List Stream) (is : as_step kind ≡ Some step) (fed : (ts : List Table) → tables_for F kind ts ≡ ts) where
  abbrev pub new : PhysicalNode
  new = record { kind = kind; schema = schema; origin = at; inputs = inputs }

  abbrev CaseBy : Option Step → List Table → Table → Type 0
  CaseBy o ts T = (U : Table) × PhysicalBefore F new o ts U × (T ≡ narrowed F new (cut_by (cut_of F o) U))

  case_by : (ts : List Table) (T : Table) → PhysicalCase F new ts T → (V : Table) × Case F at step ts V × (T ≡ narrowed F new V)
  case_by ts T k =
      let m = subst (λ (o : Option Step). CaseBy o ts T) is (subst (λ (us : List Table). CaseBy (as_step kind) us T) (fed ts) k) in
      (cut_by (step_cut step) m.0, (m.0, m.1, refl), m.2)

  before_by : (ts : List Table) (U : Table) → PhysicalBefore F new (as_step kind) (tables_for F kind ts) U → GivesBeforeCut F at step ts U
  before_by ts U g = subst (λ (o : Option Step). PhysicalBefore F new o ts U) is (subst (λ (us : List Table). PhysicalBefore F new (as_step kind) us U) (fed ts) g)

  large_by : (ts : List Table) → IsLargeByStep F at (as_step kind) (tables_for F kind ts) → IsLargeStep F at step ts
  large_by ts l = subst (λ (o : Option Step). IsLargeByStep F at o ts) is (subst (λ (us : List Table). IsLargeByStep F at (as_step kind) us) (fed ts) l)

  module _ (before : Shape) (tables : ℕ → Table) (chosen : IsPhysicalChoice F (before ++ new ∷ []) tables) (same : (V : Table) → Case F at step (tables_from tables inputs) V → narrowed F new V ≡ V) where
    abbrev ts : List Table
    ts = tables_from tables inputs

    last_case : Case F at step ts (tables (length before))
    last_case =
        let m = case_by ts (tables (length before)) (chosen (length before) new (last_node before new)) in
        subst (Case F at step ts) (sym (m.2 ∙ same m.0 m.1)) m.1

    gives : (n : ℕ) (U : Table) → length before ≤ n → n < length (before ++ new ∷ []) → PhysicalMayGive F (before ++ new ∷ []) tables n U → Case F at step ts U ⊎ GivesBeforeCut F at step ts U
    gives n U low high (inl e) = inl (subst (Case F at step ts) (ap tables (sym (last_number before new n low high)) ∙ e) last_case)
    gives n U low high (inr (q, there, g)) =
        inr (before_by ts U (subst (λ (q : PhysicalNode). PhysicalBefore F q (as_step q.kind) (tables_for F q.kind (input_tables F tables q)) U) (sym (node_is before new n q low high there)) g))

    large_given : (U : Table) → max_rows < length U.rows → Case F at step ts U ⊎ GivesBeforeCut F at step ts U → IsLargeCase F at step ts
    large_given U large (inl (V, g, e)) =
        let shorter : length U.rows ≤ length V.rows = subst (λ (T : Table). length T.rows ≤ length V.rows) (sym e) (by_shorter (step_cut step) V) in
        inr (V, g, omega arith)
    large_given U large (inr g) = inr (U, g, large)

    last_large : (n : ℕ) → length before ≤ n → n < length (before ++ new ∷ []) → IsLargeAt F (before ++ new ∷ []) tables n → IsLargeCase F at step ts
    last_large n low high (inl (U, m, large)) = large_given U large (gives n U low high m)
    last_large n low high (inr (q, there, l)) =
        inl (large_by ts (subst (λ (q : PhysicalNode). IsLargeByStep F q.origin (as_step q.kind) (tables_for F q.kind (input_tables F tables q))) (sym (node_is before new n q low high there)) l))

    pub node_means : EndsAsStep F at step ts (tables (length before)) × ShowsOnlyStep F before (before ++ new ∷ []) tables at step ts
    node_means = (
      record { table = (tables (length before), last_case, record { same_schema = refl; same_rows = refl; both_whole = refl }); causes = λ c h. (tables (length before), inl last_case, h) },
      record { causes = λ n U c low high m h. (U, gives n U low high m, h); sizes = λ n low high l. inl (last_large n low high l) },
    )

  pub made_here : (before : Shape) → AllByRecursion (IsMadeFor at before inputs) (new ∷ [])
  made_here before = (record { origin = refl; reads = λ i h. inr h }, tt)

  pub node_keeps : (s : State) → ((tables : ℕ → Table) → HaveRows s.nodes tables inputs → (V : Table) → Case F at step (tables_from tables inputs) V → narrowed F new V ≡ V)
      → KeepsStep F at step s (insert_node s new).state inputs (insert_node s new).stream
  node_keeps s same =
      record {
        more = new ∷ [];
        nodes = refl;
        made = made_here s.nodes;
        there = last_there s.nodes new;
        fed = inl (omega arith);
        meaning = λ tables chosen rows. node_means s.nodes tables chosen (same tables rows);
      }

  -- of a node that isn't a join
  module _ (alone : is_join F kind ≡ false) where
    plain : (V : Table) → narrowed F new V ≡ V
    plain V = ap (λ (b : Bool). if b then projected (names_of schema) schema V else V) alone

    pub plain_means : (before : Shape) (tables : ℕ → Table) → IsPhysicalChoice F (before ++ new ∷ []) tables
        → EndsAsStep F at step (tables_from tables inputs) (tables (length before)) × ShowsOnlyStep F before (before ++ new ∷ []) tables at step (tables_from tables inputs)
    plain_means before tables chosen = node_means before tables chosen (λ V k. plain V)

    pub plain_keeps : (s : State) → KeepsStep F at step s (insert_node s new).state inputs (insert_node s new).stream
    plain_keeps s = node_keeps s (λ tables rows V k. plain V)
