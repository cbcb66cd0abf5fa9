use Rattle.ps_shares.proofs.Shares.{selects_show, shows_less}
use Rattle.ps_shares.proofs.ZipShares.{inputs_show, zips_show}
use Rattle.ps_shares.proofs.laws.tables_show_columns.Goals as goal

pub returns-clause-inputs : goal.returns-clause-inputs
returns-clause-inputs c = inputs_show

pub returns-clause-selects : goal.returns-clause-selects
returns-clause-selects c = selects_show

pub returns-clause-zips : goal.returns-clause-zips
returns-clause-zips c = zips_show

pub returns-clause-less : goal.returns-clause-less
returns-clause-less c = shows_less
