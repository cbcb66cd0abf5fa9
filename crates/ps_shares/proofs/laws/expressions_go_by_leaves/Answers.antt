use Rattle.ps_shares.proofs.Leaves.{go_by_leaves}
use Rattle.ps_shares.proofs.laws.expressions_go_by_leaves.Goals as goal

pub returns : goal.returns
returns c = go_by_leaves
