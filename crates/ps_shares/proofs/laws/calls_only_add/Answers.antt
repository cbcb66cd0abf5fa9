use Rattle.ps_shares.proofs.Adding.{calls_add}
use Rattle.ps_shares.proofs.laws.calls_only_add.Goals as goal

pub returns : goal.returns
returns c = calls_add
