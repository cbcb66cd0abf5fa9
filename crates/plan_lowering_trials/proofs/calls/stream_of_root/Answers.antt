use Rattle.std.proofs.Common.{subst, sym}
use Rattle.pu_base.specs.declared.arena.Node.{Node}
use Rattle.ps_plan.specs.Graph.{Reached, here}
use Rattle.valid_plans.specs.Valid.{plan_with}
use Rattle.plan_lowering_trials.proofs.calls.stream_of_root.Goals as goal

pub lower_ir-requires-clause-reached : goal.lower_ir-requires-clause-reached
lower_ir-requires-clause-reached g c κs within = subst (λ (n : Node). Reached (plan_with c.args.valid.now c.args.exprs.now.items) n.0) (sym c.root.ensures) here
