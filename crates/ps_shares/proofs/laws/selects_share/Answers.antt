use Rattle.ps_shares.proofs.InputShares.{inputs_share}
use Rattle.ps_shares.proofs.SelectShares.{selects_share}
use Rattle.ps_shares.proofs.laws.selects_share.Goals as goal

pub returns-clause-selects : goal.returns-clause-selects
returns-clause-selects c = selects_share

pub returns-clause-inputs : goal.returns-clause-inputs
returns-clause-inputs c = inputs_share
