use Rattle.std.proofs.Common.{subst, sym}
use Rattle.ps_plan.specs.Graph.{here}
use Rattle.lowering_trials.specs.Going.{IsReached}
use Rattle.lowering_trials.proofs.lowered.lowered.Goals as goal

pub node_stream-requires-clause-reached : goal.node_stream-requires-clause-reached
node_stream-requires-clause-reached c = subst (IsReached c.args.valid.now) (sym c.root.ensures) here
