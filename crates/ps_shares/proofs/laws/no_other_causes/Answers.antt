use Rattle.ps_shares.proofs.ByCauses.{causes_by_leaves}
use Rattle.ps_shares.proofs.laws.no_other_causes.Goals as goal

pub returns : goal.returns
returns c = causes_by_leaves
