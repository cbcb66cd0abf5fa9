-- The functions may be asked for its table.
use Rattle.std.proofs.Common.{arith}
use Rattle.map_flow_trials.proofs.Fitting.{can_call}
use Rattle.map_flow_trials.proofs.fills.filled.Goals as goal

pub fill-requires-clause-fit : goal.fill-requires-clause-fit
fill-requires-clause-fit c = λ κs. can_call c.in_ok-node.node 0 (omega arith) c.in_ok-node.ensures.shown
