-- The tree of a node is made of the trees of the nodes that its entry names.
use Rattle.std.proofs.Common.{◌≡◌, ℕ, zero, suc, ◌<◌, List, [], ◌∷◌, length, slice_get, Option, refl, subst, sym, ◌∙◌, ap}
use Rattle.std.specs.Prelude.{Some, None}
use Rattle.std.proofs.lemmas.Option.{slice_get_within}
use Rattle.pu_base.specs.declared.arena.Node.{Node}
use Rattle.ps_frame.specs.Trees.{Tree, tree_at}
use Rattle.ps_frame.specs.declared.expr.AExpr.{AExpr}
use Rattle.ps_meaning.specs.PlanTrees.{PlanTree, node, PlanTrees, IsCompletePlan, AreCompletePlans}
use Rattle.ps_plan.specs.Plans.{IsPlan, node_tree, plan_at, plan_trees_of, plan_within}
use Rattle.ps_plan.specs.Entries.{entry_inputs, entry_step}
use Rattle.ps_plan.specs.declared.ir.IR.{IR}

-- f gives the trees that g gives, where these are complete
module _ (expr : Node → Tree) (f g : Node → PlanTree) (same : (n : Node) → IsCompletePlan (g n) → f n ≡ g n) where
  trees-same : (ns : List Node) → AreCompletePlans (plan_trees_of g ns) → plan_trees_of f ns ≡ plan_trees_of g ns
  trees-same [] h = refl
  trees-same (n ∷ ns) h = ap (λ t. PlanTrees.tree t (plan_trees_of f ns)) (same n h.0) ∙ ap (PlanTrees.tree (g n)) (trees-same ns h.1)

  node-same : (n : Node) (o : Option IR) → IsCompletePlan (node_tree expr g n o) → node_tree expr f n o ≡ node_tree expr g n o
  node-same n None h = refl
  node-same n (Some e) h = ap (node n.0 (entry_step expr e)) (trees-same (entry_inputs e) h.1)

-- a complete tree is what more depth gives too
pub plan_within-more : (depth : ℕ) (nodes : List IR) (exprs : List AExpr) (n : Node) → IsCompletePlan (plan_within depth nodes exprs n) → plan_within (suc depth) nodes exprs n ≡ plan_within depth nodes exprs n
unfolding plan_within
plan_within-more zero nodes exprs n h = absurd h
plan_within-more (suc depth) nodes exprs n h =
    node-same (tree_at exprs) (plan_within (suc depth) nodes exprs) (plan_within depth nodes exprs) (λ m. plan_within-more depth nodes exprs m) n (slice_get nodes n.0) h

-- the tree of a node is that of its entry over the trees of the arena
pub plan_at-entry : (nodes : List IR) (exprs : List AExpr) (n : Node) → IsPlan nodes exprs n → plan_at nodes exprs n ≡ node_tree (tree_at exprs) (plan_at nodes exprs) n (slice_get nodes n.0)
unfolding plan_within
plan_at-entry [] exprs n h = absurd h
plan_at-entry (x ∷ nodes) exprs n h =
    sym (node-same (tree_at exprs) (plan_within (suc (length nodes)) (x ∷ nodes) exprs) (plan_within (length nodes) (x ∷ nodes) exprs) (λ m. plan_within-more (length nodes) (x ∷ nodes) exprs m) n (slice_get (x ∷ nodes) n.0) h)

-- the same at an entry that is known
pub plan_at-is : (nodes : List IR) (exprs : List AExpr) (n : Node) (e : IR) → IsPlan nodes exprs n → slice_get nodes n.0 ≡ Some e → plan_at nodes exprs n ≡ node_tree (tree_at exprs) (plan_at nodes exprs) n (Some e)
plan_at-is nodes exprs n e h is = plan_at-entry nodes exprs n h ∙ ap (node_tree (tree_at exprs) (plan_at nodes exprs) n) is

-- so its inputs are plans
pub complete-is : (nodes : List IR) (exprs : List AExpr) (n : Node) (e : IR) → IsPlan nodes exprs n → slice_get nodes n.0 ≡ Some e → IsCompletePlan (node_tree (tree_at exprs) (plan_at nodes exprs) n (Some e))
complete-is nodes exprs n e h is = subst IsCompletePlan (plan_at-is nodes exprs n e h is) h

-- a plan's number is in range
pub IsPlan-in_range : (nodes : List IR) (exprs : List AExpr) (n : Node) → IsPlan nodes exprs n → n.0 < length nodes
IsPlan-in_range nodes exprs n h = go (slice_get nodes n.0) refl
  where
    go : (o : Option IR) → slice_get nodes n.0 ≡ o → n.0 < length nodes
    go None e = let m = plan_at-entry nodes exprs n h ∙ ap (node_tree (tree_at exprs) (plan_at nodes exprs) n) e in absurd (subst IsCompletePlan m h)
    go (Some x) e = slice_get_within nodes n.0 x e
