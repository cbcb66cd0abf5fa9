use Rattle.ps_shares.proofs.Members.{members_decide}
use Rattle.ps_shares.proofs.laws.members_decide.Goals as goal

pub returns : goal.returns
returns c = members_decide
