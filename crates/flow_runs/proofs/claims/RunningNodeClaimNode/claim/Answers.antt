-- The node that counted it has what the claim leaves behind.
use Rattle.flow_runs.proofs.Counted.{has_claimed}
use Rattle.flow_runs.proofs.claims.RunningNodeClaimNode.claim.Goals as goal

pub returns : goal.returns
returns c = has_claimed c.args.self.now c.args._input c.args.rows (record { flow = c.count.new.flow; work = c.count.new.work }) c.count.ensures
