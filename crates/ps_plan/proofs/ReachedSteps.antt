-- What holds of each reached node's step holds of each step of the tree.
use Rattle.std.proofs.Common.{ℕ, zero, suc, List, [], ◌∷◌, length}
use Rattle.std.specs.Prelude.{Option, Some, None, IfSome, map, slice_get, Contains}
use Rattle.pu_base.specs.declared.arena.Node.{Node}
use Rattle.ps_frame.specs.Trees.{tree_at}
use Rattle.ps_plan.specs.Graph.{Path, Reached, here, named_by, onward}
use Rattle.ps_meaning.specs.Laws.{EachStep, EachStepOf}
use Rattle.ps_meaning.proofs.Containing.{contains-first, contains-later}
use Rattle.ps_plan.specs.Graph.{EachReached}
use Rattle.ps_meaning.specs.PlanTrees.{PlanTree}
use Rattle.ps_plan.specs.Plans.{Plan, node_tree, plan_trees_of, plan_within, tree_of}
use Rattle.ps_meaning.specs.Steps.{Step}
use Rattle.ps_plan.specs.Entries.{entry_inputs, entry_step}
use Rattle.ps_plan.specs.declared.ir.IR.{IR}

pub path-then : {next : ℕ → List ℕ} {a b c : ℕ} → Path next a b → Contains (next b) c → Path next a c
path-then here h = onward h here
path-then (onward k way) h = onward k (path-then way h)

module _ (plan : Plan) (P : Step → Type 0) where
  each-input : (f : Node → PlanTree) (ns : List Node) → ((m : Node) → Contains (map (λ (n : Node). n.0) ns) m.0 → EachStep P (f m)) → EachStepOf P (plan_trees_of f ns)
  each-input f [] each = tt
  each-input f (n ∷ ns) each = (each n (contains-first n.0 _), each-input f ns (λ m h. each m (contains-later n.0 m.0 _ h)))

  each-node : (f : Node → PlanTree) (n : Node) (o : Option IR) → IfSome o (λ e. P (entry_step (tree_at plan.exprs) e)) → ((m : Node) → Contains (named_by entry_inputs o) m.0 → EachStep P (f m))
      → EachStep P (node_tree (tree_at plan.exprs) f n o)
  each-node f n None own each = tt
  each-node f n (Some e) own each = (own, each-input f (entry_inputs e) each)

  each-within : (d : ℕ) (n : Node) → EachReached P plan → Reached plan n.0 → EachStep P (plan_within d plan.nodes plan.exprs n)
  unfolding plan_within
  each-within zero n all way = tt
  each-within (suc d) n all way =
      each-node (plan_within d plan.nodes plan.exprs) n (slice_get plan.nodes n.0) (all n.0 way) (λ m h. each-within d m all (path-then way h))

  pub each-step : EachReached P plan → EachStep P (tree_of plan plan.root.0)
  each-step all = each-within (length plan.nodes) plan.root all here
