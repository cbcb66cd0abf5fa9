-- The functions may be asked for its table.
use Rattle.std.proofs.Common.{arith}
use Rattle.map_flow_trials.proofs.Fitting.{can_call}
use Rattle.map_flow_trials.proofs.fills.refused.Goals as goal

pub fill-requires-clause-fit : goal.fill-requires-clause-fit
fill-requires-clause-fit c = λ κs. can_call c.args.node 1 (omega arith) c.requires.shown
