use Rattle.std.proofs.Common.{◌+◌, take}
use Rattle.ps_meaning.specs.PlanTrees.{plan_size, plans_size}
use Rattle.ps_plan.specs.Plans.{plan_at, plan_trees_of}
use Rattle.plan_rules.specs.Plans.{lower_plans}
use Rattle.plan_lowering.specs.Lowered.{LowerAs}
use Rattle.plan_lowering.proofs.plans.+lowering.Given as goal

abbrev pub decreases-lower_ir : goal.decreases-lower_ir
decreases-lower_ir g l = plan_size (plan_at l.valid.now.nodes l.expr_arena.now.items l.node)

abbrev pub decreases-lower_all : goal.decreases-lower_all
decreases-lower_all g l = plans_size (plan_trees_of (plan_at l.valid.now.nodes l.expr_arena.now.items) l.nodes.now)

abbrev pub decreases-lower_cache : goal.decreases-lower_cache
decreases-lower_cache g l = plan_size (plan_at l.valid.now.nodes l.expr_arena.now.items l.input) + 1

abbrev pub invariant-lower_all-loop-node : goal.invariant-lower_all-loop-node
invariant-lower_all-loop-node g l =
    LowerAs (lower_plans (g.F.Functions.told l.functions) (plan_trees_of (plan_at l.valid.nodes l.initial.expr_arena.items) (take l.node-index l.nodes))) l.initial.expr_arena.items l.expr_arena.items l.initial.low l.low l.initial.cache_nodes l.cache_nodes l.streams.items
