use Rattle.ps_shares.proofs.ByLeaves.{stay_within}
use Rattle.ps_shares.proofs.laws.expressions_stay_within.Goals as goal

pub returns : goal.returns
returns c = stay_within
