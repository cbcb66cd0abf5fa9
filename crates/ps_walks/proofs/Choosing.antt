-- The choice that takes for each cache id the table below the first of its caches: in a valid plan all of them stand over one node.
use Rattle.std.proofs.Common.{◌≡◌, ◌≢◌, ◌⊎◌, ◌↔◌, inl, inr, ℕ, zero, suc, List, [], ◌∷◌, slice_get, refl, sym, ◌∙◌, ap, arith}
use Rattle.std.specs.Prelude.{Option, Some, None, Contains, IfSome, true, false}
use Rattle.std.proofs.Math.Dec.{eqb}
use Rattle.std.proofs.lemmas.Bool.Decides.{eqb_tells}
use Rattle.pu_base.specs.declared.arena.Node.{Node}
use Rattle.ps_frame.specs.Functions.{Functions}
use Rattle.ps_frame.specs.Tables.{Frame, Table, no_rows, whole}
use Rattle.ps_frame.specs.Trees.{Tree, tree_at}
use Rattle.ps_frame.specs.declared.refusal.Why.TheVariants as why
use Rattle.ps_meaning.specs.Cases.{Case, GivesBeforeCut}
use Rattle.ps_plan.specs.Graph.{Reached}
use Rattle.ps_meaning.specs.Meaning.{Choice, IsChosen}
use Rattle.ps_meaning.specs.Nodes.{GivesFrame, wholes}
use Rattle.ps_plan.specs.Plans.{Plan}
use Rattle.ps_meaning.specs.StepRefusals.{invalid_plan}
use Rattle.ps_plan.specs.Refusals.{EntryIs, IsCacheOver, IsValid, two_inputs}
use Rattle.ps_meaning.specs.Steps.{Step, function_step}
use Rattle.ps_plan.specs.Entries.{entry_inputs, entry_step}
use Rattle.ps_meaning.specs.declared.options.FunctionIR.{FunctionIR}
use Rattle.ps_meaning.specs.declared.options.FunctionIR.TheVariants as call
use Rattle.ps_plan.specs.declared.ir.IR.{IR}
use Rattle.ps_plan.specs.declared.ir.IR.TheVariants as entry
use Rattle.ps_walks.specs.Computed.{GivesAt, Tables, tables_of}

pub same-or-not : (m n : ℕ) → (m ≡ n) ⊎ (m ≢ n)
same-or-not m n = by (eqb_tells m n)
  where
    by : ((eqb m n ≡ true) × (m ≡ n)) ⊎ ((eqb m n ≡ false) × (m ≢ n)) → (m ≡ n) ⊎ (m ≢ n)
    by (inl h) = inl h.1
    by (inr h) = inr h.1

abbrev if-same : {A B : Type 0} → A ⊎ B → Node → Option Node
if-same (inl h) input = Some input
if-same (inr h) input = None

-- the node below a cache of the id
abbrev below-cache : ℕ → Option IR → Option Node
below-cache id (Some (entry.Cache input other hits)) = if-same (same-or-not id other) input
below-cache id _ = None

if-same-is : (id other : ℕ) (d : (id ≡ other) ⊎ (id ≢ other)) (input i : Node) → if-same d input ≡ Some i → (id ≡ other) × (i.0 ≡ input.0)
if-same-is id other (inl h) input i e = (h, let f : input ≡ i = cc in ap (λ (n : Node). n.0) (sym f))
if-same-is id other (inr h) input i e = absurd (let f : Option.None ≡ Some i = e in cc)

is-over : (id : ℕ) (e : IR) (i : Node) → below-cache id (Some e) ≡ Some i → IsCacheOver id i.0 e
is-over id (entry.Cache input other hits) i h = if-same-is id other (same-or-not id other) input i h
is-over id (entry.DataFrameScan df columns) i h = absurd cc
is-over id (entry.SimpleProjection input columns) i h = absurd cc
is-over id (entry.Select input es) i h = absurd cc
is-over id (entry.HStack input es) i h = absurd cc
is-over id (entry.Filter input predicate) i h = absurd cc
is-over id (entry.Slice input offset len) i h = absurd cc
is-over id (entry.Sink input payload) i h = absurd cc
is-over id (entry.MapFunction input g) i h = absurd cc
is-over id (entry.Sort input by cut options) i h = absurd cc
is-over id (entry.Union inputs options) i h = absurd cc
is-over id (entry.HConcat inputs) i h = absurd cc
is-over id (entry.GroupBy input keys aggs maintain options) i h = absurd cc
is-over id (entry.Join left right left_on right_on args) i h = absurd cc
is-over id (entry.Distinct input o) i h = absurd cc
is-over id (entry.LeftOut what) i h = absurd cc

below-own : (id : ℕ) (input : Node) (hits : ℕ) → below-cache id (Some (entry.Cache input id hits)) ≡ Some input
below-own id input hits = by (same-or-not id id)
  where
    by : (d : (id ≡ id) ⊎ (id ≢ id)) → if-same d input ≡ Some input
    by (inl h) = refl
    by (inr h) = absurd (h refl)

abbrev or-next : Tables → Option Node → Table → Table
or-next T None t = t
or-next T (Some n) t = whole (T n.0)

-- the table below the first cache of the id
abbrev pub choose : Plan → Tables → List ℕ → ℕ → Table
choose plan T [] id = no_rows [] []
choose plan T (m ∷ ms) id = or-next T (below-cache id (slice_get plan.nodes m)) (choose plan T ms id)

-- what the step of a node gives before or after its slice is the choice's table where it is a cache
module _ (F : Functions) (T : Tables) (choice : Choice) where
  before-cache : (n id : ℕ) (f : Frame) (U : Table) → GivesBeforeCut F n (Step.cache id) (wholes (f ∷ [])) U → U ≡ whole f
  before-cache n id f U (inl u) = u
  before-cache n id f U (inr (V, gives, some, u)) = absurd (some refl)

  some-cache : (n id : ℕ) (f : Frame) (U : Table) → Case F n (Step.cache id) (wholes (f ∷ [])) U ⊎ GivesBeforeCut F n (Step.cache id) (wholes (f ∷ [])) U → U ≡ whole f
  some-cache n id f U (inl (V, before, is)) = is ∙ before-cache n id f V before
  some-cache n id f U (inr before) = before-cache n id f U before

  function-chosen : (g : FunctionIR) (U : Table) → IsChosen choice (function_step g) U
  function-chosen (call.RowIndex name offset) U = tt
  function-chosen (call.User n) U = tt

  pub some-chosen : (f : Node → Tree) (n : ℕ) (e : IR) (U : Table)
      → Case F n (entry_step f e) (wholes (tables_of T (entry_inputs e))) U ⊎ GivesBeforeCut F n (entry_step f e) (wholes (tables_of T (entry_inputs e))) U
      → ((id hits : ℕ) (input : Node) → e ≡ entry.Cache input id hits → choice id ≡ whole (T input.0)) → IsChosen choice (entry_step f e) U
  some-chosen f n (entry.Cache input id hits) U gives is = some-cache n id (T input.0) U gives ∙ sym (is id hits input refl)
  some-chosen f n (entry.DataFrameScan df columns) U gives is = tt
  some-chosen f n (entry.SimpleProjection input columns) U gives is = tt
  some-chosen f n (entry.Select input es) U gives is = tt
  some-chosen f n (entry.HStack input es) U gives is = tt
  some-chosen f n (entry.Filter input predicate) U gives is = tt
  some-chosen f n (entry.Slice input offset len) U gives is = tt
  some-chosen f n (entry.Sink input payload) U gives is = tt
  some-chosen f n (entry.MapFunction input g) U gives is = function-chosen g U
  some-chosen f n (entry.Sort input by cut options) U gives is = tt
  some-chosen f n (entry.Union inputs options) U gives is = tt
  some-chosen f n (entry.HConcat inputs) U gives is = tt
  some-chosen f n (entry.GroupBy input keys aggs maintain options) U gives is = tt
  some-chosen f n (entry.Join left right left_on right_on args) U gives is = tt
  some-chosen f n (entry.Distinct input o) U gives is = tt
  some-chosen f n (entry.LeftOut what) U gives is = tt

module _ (F : Functions) (plan : Plan) (T : Tables) (valid : IsValid F plan) where
  one-input : (m n id a b : ℕ) → Reached plan m → Reached plan n → EntryIs plan m (IsCacheOver id a) → EntryIs plan n (IsCacheOver id b) → a ≡ b
  one-input m n id a b reached_m reached_n at_m at_n = by (same-or-not a b)
    where
      by : (a ≡ b) ⊎ (a ≢ b) → a ≡ b
      by (inl h) = h
      by (inr h) = absurd (valid m (invalid_plan why.Limits) (record { reached = reached_m; because = inl (two_inputs n id a b reached_n at_m at_n h) }))

  over-entry : (m id : ℕ) (o : Option IR) (i : Node) → slice_get plan.nodes m ≡ o → below-cache id o ≡ Some i → EntryIs plan m (IsCacheOver id i.0)
  over-entry m id None i at h = absurd cc
  over-entry m id (Some e) i at h = rw at (is-over id e i h)

  pub chosen-is : (ms : List ℕ) → ((m : ℕ) → Contains ms m → Reached plan m) → (n id hits : ℕ) (input : Node) → Reached plan n → slice_get plan.nodes n ≡ Some (entry.Cache input id hits) → Contains ms n → choose plan T ms id ≡ whole (T input.0)
  chosen-is [] all n id hits input reached at (k, h, e) = absurd (omega (arith, h))
  chosen-is (m ∷ ms) all n id hits input reached at c =
      by (λ d. chosen-is ms (λ x d. all x (let (k, less, e) = d in (suc k, omega (arith, less), e))) n id hits input reached at d) (below-cache id (slice_get plan.nodes m)) refl
    where
      here-is : (m ≡ n) → below-cache id (slice_get plan.nodes m) ≡ None → ⊥
      here-is same h = let own = below-own id input hits in let there : slice_get plan.nodes m ≡ Some (entry.Cache input id hits) = ap (λ x. slice_get plan.nodes x) same ∙ at in
          let f : Option.None ≡ Some input = sym h ∙ ap (λ o. below-cache id o) there ∙ own in cc

      later : below-cache id (slice_get plan.nodes m) ≡ None → Contains (m ∷ ms) n → Contains ms n
      later h (zero, less, e) = absurd (here-is e h)
      later h (suc k, less, e) = (k, omega (arith, less), e)

      by : (Contains ms n → choose plan T ms id ≡ whole (T input.0)) → (o : Option Node) → below-cache id (slice_get plan.nodes m) ≡ o → or-next T o (choose plan T ms id) ≡ whole (T input.0)
      by rec None h = rec (later h c)
      by rec (Some i) h = ap (λ (k : ℕ). whole (T k)) (one-input m n id i.0 input.0 (all m (0, omega arith, refl)) reached (over-entry m id (slice_get plan.nodes m) i refl h) (rw at (refl, refl)))

  option-chosen : (choice : Choice) (n : ℕ) (o : Option IR) → IfSome o (λ e. GivesFrame F n (entry_step (tree_at plan.exprs) e) (tables_of T (entry_inputs e)) (T n))
      → ((id hits : ℕ) (input : Node) → o ≡ Some (entry.Cache input id hits) → choice id ≡ whole (T input.0)) → IfSome o (λ e. IsChosen choice (entry_step (tree_at plan.exprs) e) (whole (T n)))
  option-chosen choice n None gives is = tt
  option-chosen choice n (Some e) gives is = some-chosen F T choice (tree_at plan.exprs) n e (whole (T n)) (inl gives) (λ id hits input h. is id hits input (ap (λ x. Some x) h))

  -- under the choice each cache has its table
  pub chosen-at : (order : List ℕ) → ((m : ℕ) → Reached plan m ↔ Contains order m) → (n : ℕ) → Reached plan n → GivesAt F plan T n → IfSome (slice_get plan.nodes n) (λ e. IsChosen (choose plan T order) (entry_step (tree_at plan.exprs) e) (whole (T n)))
  chosen-at order lists n reached gives =
      option-chosen (choose plan T order) n (slice_get plan.nodes n) gives (λ id hits input h. chosen-is order (λ m c. (lists m).1 c) n id hits input reached h ((lists n).0 reached))
