use Rattle.std.proofs.Common.{sym, subst}
use Rattle.pu_base.specs.declared.arena.Node.{Node}
use Rattle.ps_plan.specs.Graph.{Reached, here}
use Rattle.valid_plans.specs.Valid.{plan_with}
use Rattle.node_bench.proofs.nodes.once.Goals as goal

pub node_table-requires-clause-reached : goal.node_table-requires-clause-reached
node_table-requires-clause-reached g c κs within = subst (λ (n : Node). Reached (plan_with c.args.valid.now c.args.exprs.now.items) n.0) (sym c.root.ensures) here
