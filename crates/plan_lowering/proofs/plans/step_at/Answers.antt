use Rattle.plan_rules.specs.Nodes.{step_stream}
use Rattle.ps_frame.specs.Trees.{tree_at}
use Rattle.ps_phys.specs.Shown.{streams_of}
use Rattle.ps_plan.specs.Entries.{entry_step}
use Rattle.plan_lowering.proofs.Nodes.{goes_between, makes_between}
use Rattle.plan_lowering.proofs.plans.step_at.Goals as goal

pub returns-clause-makes : goal.returns-clause-makes
returns-clause-makes g c =
    makes_between (step_stream c.args.node.0 (g.F.Functions.told c.args.functions.now) (entry_step (tree_at c.args.arena.now.items) c.args.ir.now) c.args.schema.now (streams_of c.args.inputs.items)) c.step_stream-stream.result c.args.arena.now.items c.step_stream-stream.new.arena.items c.args.low.now c.step_stream-stream.new.low c.args.node c.step_stream-stream.ensures.makes

pub returns-clause-goes_on : goal.returns-clause-goes_on
returns-clause-goes_on g c = goes_between c.args.arena.now.items c.step_stream-stream.new.arena.items c.args.low.now c.step_stream-stream.new.low c.args.node c.step_stream-stream.ensures.goes_on
