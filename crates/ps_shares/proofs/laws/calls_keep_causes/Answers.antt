use Rattle.ps_shares.proofs.ByCauses.{calls_keep_causes}
use Rattle.ps_shares.proofs.laws.calls_keep_causes.Goals as goal

pub returns : goal.returns
returns c = calls_keep_causes
