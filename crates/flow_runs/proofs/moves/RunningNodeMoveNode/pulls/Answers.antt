-- Of the nodes that stream a sink alone pulls.
use Rattle.flow_runs.proofs.Moving.{others_claim}
use Rattle.flow_runs.proofs.moves.RunningNodeMoveNode.pulls.Goals as goal

pub returns-in_default : goal.returns-in_default
returns-in_default c = others_claim c.args.self.now c.in_default.not-Stores
