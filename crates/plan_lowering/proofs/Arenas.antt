-- A valid plan over an arena of expressions that grows, and what stands below its nodes.
use Rattle.std.proofs.Common.{◌≡◌, ℕ, zero, suc, ◌<◌, List, [], ◌∷◌, ◌++◌, drop, length, get_or, sym, ap, subst, ◌∙◌, arith}
use Rattle.std.specs.Prelude.{Contains, Option, Some, map, slice_get}
use Rattle.std.specs.List.{AllByRecursion}
use Rattle.std.proofs.lemmas.List.{take-append-drop}
use Rattle.pu_base.specs.declared.arena.Node.{Node}
use Rattle.ps_frame.specs.Functions.{Functions}
use Rattle.ps_frame.specs.Trees.{IsComplete, tree_at}
use Rattle.ps_frame.specs.declared.expr.AExpr.{AExpr}
use Rattle.ps_copies.specs.Copies.{KeepsTrees}
use Rattle.ps_meaning.proofs.Containing.{contains-first, contains-later}
use Rattle.ps_meaning.specs.PlanTrees.{PlanTree, plan_size, plans_size}
use Rattle.ps_meaning.specs.Steps.{step_exprs}
use Rattle.ps_plan.proofs.ReachedSteps.{path-then}
use Rattle.ps_plan.proofs.ValidPlans.{reached-complete}
use Rattle.ps_plan.specs.Entries.{entry_inputs, entry_step}
use Rattle.ps_plan.specs.Graph.{Reached, named_by}
use Rattle.ps_plan.specs.Plans.{IsPlan, plan_trees_of, tree_of}
use Rattle.ps_plan.specs.declared.ir.IR.{IR}
use Rattle.valid_plans.proofs.Growing.{step-same}
use Rattle.valid_plans.proofs.Staying.{stays-with, tree-stays}
use Rattle.valid_plans.specs.Valid.{IsValidWith, ValidNodes, plan_with}
use Rattle.ps_walks.proofs.Fits.{step-fits}
use Rattle.ps_walks.specs.Accepted.{schemas_at}
use Rattle.ps_walks.specs.Fit.{IsFit, plan_schemas}
use Rattle.lowering_parts.specs.Gathered.{Begins}

-- entries are added to the arena
module _ (F : Functions) (v : ValidNodes) (a b : List AExpr) (begins : Begins a b) (h : IsValidWith F v a) where
  abbrev more : List AExpr
  more = drop (length a) b

  grown : a ++ drop (length a) b ≡ b
  grown = ap (λ xs. xs ++ drop (length a) b) (sym begins) ∙ take-append-drop (length a) b

  pub valid_later : IsValidWith F v b
  valid_later = subst (IsValidWith F v) grown (stays-with F v a (drop (length a) b) h)

  pub tree_later : (n : ℕ) → Reached (plan_with v a) n → tree_of (plan_with v b) n ≡ tree_of (plan_with v a) n
  tree_later n reached = subst (λ (x : List AExpr). tree_of (plan_with v x) n ≡ tree_of (plan_with v a) n) grown (tree-stays F v a (drop (length a) b) h.valid n reached)

-- the same node, whatever stands in the arena
pub reached_later : (v : ValidNodes) (a b : List AExpr) (n : ℕ) → Reached (plan_with v a) n → Reached (plan_with v b) n
reached_later v a b n reached = reached

all_of : (P : ℕ → Type 0) (ns : List Node) → ((m : ℕ) → Contains (map (λ (n : Node). n.0) ns) m → P m) → AllByRecursion (λ (n : Node). P n.0) ns
all_of P [] each = tt
all_of P (n ∷ ns) each = (each n.0 (contains-first n.0 _), all_of P ns (λ m c. each m (contains-later n.0 m _ c)))

-- a node that the root leads to, with its entry
module _ (F : Functions) (v : ValidNodes) (a : List AExpr) (h : IsValidWith F v a) (n : Node) (reached : Reached (plan_with v a) n.0) where
  pub is_plan : IsPlan v.nodes a n
  is_plan = reached-complete F (plan_with v a) h.valid n.0 reached

  module _ (e : IR) (is : slice_get v.nodes n.0 ≡ Some e) where
    pub inputs_reached : AllByRecursion (λ (m : Node). Reached (plan_with v a) m.0) (entry_inputs e)
    inputs_reached = all_of (Reached (plan_with v a)) (entry_inputs e) (λ m c. path-then reached (subst (λ (o : Option IR). Contains (named_by entry_inputs o) m) (sym is) c))

    pub is_fit : IsFit F (entry_step (tree_at a) e) (schemas_at (plan_schemas F (plan_with v a)) (entry_inputs e))
    is_fit = step-fits F (plan_with v a) h.valid h.typed n.0 reached e is

-- a step stays where the trees of its expressions do
pub step_later : (a b : List AExpr) → KeepsTrees a b → (e : IR) → AllByRecursion IsComplete (step_exprs (entry_step (tree_at a) e)) → entry_step (tree_at b) e ≡ entry_step (tree_at a) e
step_later a b keeps e whole = step-same (tree_at b) (tree_at a) keeps e whole

-- each of some items
pub item_of : (P : Node → Type 0) (ns : List Node) (i : ℕ) (d : Node) → i < length ns → AllByRecursion P ns → P (get_or ns i d)
item_of P [] i d lt h = absurd (omega arith)
item_of P (n ∷ ns) zero d lt h = h.0
item_of P (n ∷ ns) (suc i) d lt h = item_of P ns i d (omega arith) h.1

-- each of some plans is smaller than all of them
pub item_smaller : (g : Node → PlanTree) (ns : List Node) (i : ℕ) (d : Node) → i < length ns → plan_size (g (get_or ns i d)) < plans_size (plan_trees_of g ns)
item_smaller g [] i d lt = absurd (omega arith)
item_smaller g (n ∷ ns) zero d lt = omega arith
item_smaller g (n ∷ ns) (suc i) d lt = let less = item_smaller g ns i d (omega arith) in omega arith
