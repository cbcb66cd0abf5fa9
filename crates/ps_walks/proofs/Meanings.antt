-- The table of a node is a meaning of its tree, under the choice that takes the tables of the caches.
use Rattle.std.proofs.Common.{ℕ, zero, suc, List, [], ◌∷◌, slice_get}
use Rattle.std.specs.Prelude.{Option, Some, None, Contains, IfSome}
use Rattle.pu_base.specs.declared.arena.Node.{Node}
use Rattle.ps_frame.specs.Functions.{Functions}
use Rattle.ps_frame.specs.Tables.{whole}
use Rattle.ps_frame.specs.Trees.{tree_at}
use Rattle.ps_plan.specs.Graph.{Path, here, onward, inputs_at, named_by}
use Rattle.ps_meaning.specs.Meaning.{AllMean, Choice, IsChosen, Means, by_case, more_mean, none_mean}
use Rattle.ps_meaning.specs.Nodes.{GivesFrame, wholes}
use Rattle.ps_meaning.specs.PlanTrees.{AreCompletePlans, IsCompletePlan, PlanTree}
use Rattle.ps_plan.specs.Plans.{Plan, node_tree, plan_trees_of, plan_within}
use Rattle.ps_plan.specs.Entries.{entry_inputs, entry_step}
use Rattle.ps_plan.specs.declared.ir.IR.{IR}
use Rattle.ps_plan.proofs.Complete.{numbers}
use Rattle.ps_meaning.proofs.Containing.{contains-first, contains-later}
use Rattle.ps_walks.specs.Computed.{GivesAt, Tables, tables_of}

module _ (F : Functions) (plan : Plan) (T : Tables) (choice : Choice) where
  -- a cache has its choice's table
  abbrev pub ChosenAt : ℕ → Type 0
  ChosenAt n = IfSome (slice_get plan.nodes n) (λ e. IsChosen choice (entry_step (tree_at plan.exprs) e) (whole (T n)))

  abbrev pub Fits : ℕ → Type 0
  Fits n = GivesAt F plan T n × ChosenAt n

  abbrev pub within : ℕ → Node → PlanTree
  within d n = plan_within d plan.nodes plan.exprs n

  abbrev pub MeansWithin : ℕ → Type 0
  MeansWithin d = (n : Node) → IsCompletePlan (within d n) → ((m : ℕ) → Path (inputs_at plan) n.0 m → Fits m) → Means F choice (within d n) (whole (T n.0))

  pub all-mean : (d : ℕ) → MeansWithin d → (ns : List Node) → AreCompletePlans (plan_trees_of (within d) ns) → ((m : Node) → Contains (numbers ns) m.0 → (k : ℕ) → Path (inputs_at plan) m.0 k → Fits k)
      → AllMean F choice (plan_trees_of (within d) ns) (wholes (tables_of T ns))
  all-mean d rec [] complete fits = none_mean
  all-mean d rec (n ∷ ns) complete fits =
      more_mean (rec n complete.0 (fits n (contains-first n.0 _))) (all-mean d rec ns complete.1 (λ m c. fits m (contains-later n.0 m.0 _ c)))

  entry-means : (d : ℕ) → MeansWithin d → (n : Node) (o : Option IR) → IsCompletePlan (node_tree (tree_at plan.exprs) (within d) n o)
      → IfSome o (λ e. GivesFrame F n.0 (entry_step (tree_at plan.exprs) e) (tables_of T (entry_inputs e)) (T n.0)) → IfSome o (λ e. IsChosen choice (entry_step (tree_at plan.exprs) e) (whole (T n.0)))
      → ((m : Node) → Contains (named_by entry_inputs o) m.0 → (k : ℕ) → Path (inputs_at plan) m.0 k → Fits k)
      → Means F choice (node_tree (tree_at plan.exprs) (within d) n o) (whole (T n.0))
  entry-means d rec n None complete gives chosen below = absurd complete
  entry-means d rec n (Some e) complete gives chosen below = by_case (all-mean d rec (entry_inputs e) complete.1 below) gives chosen

  pub means-within : (d : ℕ) → MeansWithin d
  unfolding plan_within
  means-within zero n complete fits = absurd complete
  means-within (suc d) n complete fits =
      let own = fits n.0 here in
      entry-means d (means-within d) n (slice_get plan.nodes n.0) complete own.0 own.1 (λ m c k way. fits k (onward c way))
