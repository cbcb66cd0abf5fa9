use Rattle.std.proofs.Common.{subst, sym}
use Rattle.pu_base.specs.declared.arena.Node.{Node}
use Rattle.ps_plan.specs.Graph.{Reached, here}
use Rattle.valid_plans.specs.Valid.{plan_with}
use Rattle.plan_lowering.proofs.WholePlans.{is_physical}
use Rattle.plan_lowering.proofs.physical.build_physical_plan.Goals as goal

pub begun-requires : goal.begun-requires
begun-requires g c = (g.F.Functions.told c.args.functions.now, c.requires)

pub lower_ir-requires-clause-reached : goal.lower_ir-requires-clause-reached
lower_ir-requires-clause-reached g c κs within = subst (λ (n : Node). Reached (plan_with c.args.valid.now c.args.expr_arena.now.items) n.0) (sym c.root.ensures) here

pub returns-clause-plan : goal.returns-clause-plan
returns-clause-plan g c =
    is_physical (g.F.Functions.told c.args.functions.now) c.args.valid.now c.args.expr_arena.now.items c.lower_ir.new.expr_arena.items c.in_ok-low.low c.lower_ir.new.low c.new-cache_nodes.result c.lower_ir.new.cache_nodes c.root.result c.in_ok-stream.stream c.share.new.phys_sm.slots
    c.requires c.root.ensures c.in_ok-low.ensures.names c.in_ok-low.ensures.first c.in_ok-low.ensures.nodes c.new-cache_nodes.ensures.empty c.in_ok-stream.ensures.lowers c.in_ok-share.ensures.nodes c.counter-counter.ensures.fits
