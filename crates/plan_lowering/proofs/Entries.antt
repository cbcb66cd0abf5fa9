-- The entry of a node, in an arena that is the plan's.
use Rattle.std.proofs.Common.{◌≡◌, ℕ, suc, ◌+◌, ◌<◌, List, [], sym, ap, subst, ◌∙◌, arith}
use Rattle.std.specs.Prelude.{None, Option, Some, slice_get, unwrap_or}
use Rattle.std.specs.List.{AllByRecursion}
use Rattle.pu_base.specs.declared.arena.Node.{Node}
use Rattle.ps_frame.specs.Functions.{Functions}
use Rattle.ps_frame.specs.Tables.{Fields}
use Rattle.ps_frame.specs.Trees.{tree_at}
use Rattle.ps_frame.specs.declared.expr.AExpr.{AExpr}
use Rattle.ps_meaning.specs.PlanTrees.{PlanTree, no_trees, node, plan_size, plans_size, tree}
use Rattle.ps_meaning.specs.Schemas.{tree_schema}
use Rattle.ps_meaning.specs.Steps.{cache}
use Rattle.ps_plan.specs.Entries.{entry_inputs, entry_step}
use Rattle.ps_plan.specs.Graph.{Reached}
use Rattle.ps_plan.specs.Plans.{IsPlan, node_tree, plan_at, plan_trees_of, tree_of}
use Rattle.ps_plan.specs.declared.ir.IR.{IR}
use Rattle.valid_plans.specs.Known.{IsKnown, schema_in}
use Rattle.valid_plans.specs.Valid.{IsValidWith, ValidNodes, plan_with}
use Rattle.plan_lowering.specs.Lowered.{cache_in}
use Rattle.plan_lowering.proofs.Arenas.{inputs_reached, is_plan}
use Rattle.plan_lowering.proofs.Caches.{cache_inputs, cache_tree}

-- the tree of a node, over those of its inputs
abbrev pub tree_over : List IR → List AExpr → Node → IR → PlanTree
tree_over nodes a n e = node n.0 (entry_step (tree_at a) e) (plan_trees_of (plan_at nodes a) (entry_inputs e))

module _ (F : Functions) (v : ValidNodes) (a : List AExpr) (h : IsValidWith F v a) (n : Node) (reached : Reached (plan_with v a) n.0) (lent : List IR) (same : lent ≡ v.nodes) where
  pub lent_plan : IsPlan lent a n
  lent_plan = subst (λ (xs : List IR). IsPlan xs a n) (sym same) (is_plan F v a h n reached)

  pub own_schema : schema_in v.schemas n ≡ tree_schema F (plan_at v.nodes a n)
  own_schema = ap (λ (o : Option (Option Fields)). unwrap_or (unwrap_or o None) []) (h.schemas n.0 reached)

  pub is_known : IsKnown v.schemas n
  is_known = (tree_schema F (tree_of (plan_with v a) n.0), h.schemas n.0 reached)

  module _ (e : IR) (at : slice_get lent n.0 ≡ Some e) where
    pub stands : slice_get v.nodes n.0 ≡ Some e
    stands = subst (λ (xs : List IR). slice_get xs n.0 ≡ Some e) same at

    pub below_reached : (ns : List Node) → ns ≡ entry_inputs e → AllByRecursion (λ (m : Node). Reached (plan_with v a) m.0) ns
    below_reached ns is = subst (AllByRecursion (λ (m : Node). Reached (plan_with v a) m.0)) (sym is) (inputs_reached F v a h n reached e stands)

    pub input_reached : (input : Node) (id : ℕ) → cache_in e ≡ Some (input, id) → Reached (plan_with v a) input.0
    input_reached input id is = (subst (AllByRecursion (λ (m : Node). Reached (plan_with v a) m.0)) (cache_inputs e input id is) (inputs_reached F v a h n reached e stands)).0

    module _ (unfolds : plan_at lent a n ≡ node_tree (tree_at a) (plan_at lent a) n (Some e)) where
      pub tree_is : plan_at v.nodes a n ≡ tree_over v.nodes a n e
      tree_is = subst (λ (xs : List IR). plan_at xs a n ≡ tree_over xs a n e) same unfolds

      pub all_smaller : (ns : List Node) → ns ≡ entry_inputs e → plans_size (plan_trees_of (plan_at v.nodes a) ns) < plan_size (plan_at v.nodes a n)
      all_smaller ns is =
          let size : plan_size (plan_at v.nodes a n) ≡ suc (plans_size (plan_trees_of (plan_at v.nodes a) (entry_inputs e))) = ap plan_size tree_is in
          let those : plans_size (plan_trees_of (plan_at v.nodes a) ns) ≡ plans_size (plan_trees_of (plan_at v.nodes a) (entry_inputs e)) = ap (λ (ms : List Node). plans_size (plan_trees_of (plan_at v.nodes a) ms)) is in
          omega arith

      pub cache_tree_is : (input : Node) (id : ℕ) → cache_in e ≡ Some (input, id) → plan_at v.nodes a n ≡ node n.0 (cache id) (tree (plan_at v.nodes a input) no_trees)
      cache_tree_is input id is = tree_is ∙ cache_tree (tree_at a) (plan_at v.nodes a) n.0 e input id is

      pub input_smaller : (input : Node) (id : ℕ) → cache_in e ≡ Some (input, id) → plan_size (plan_at v.nodes a input) + 1 < plan_size (plan_at v.nodes a n)
      input_smaller input id is = let size : plan_size (plan_at v.nodes a n) ≡ suc (suc (plan_size (plan_at v.nodes a input) + 0)) = ap plan_size (cache_tree_is input id is) in omega arith
