use Rattle.ps_bundles.proofs.Lowers.{exprs_keep, selects_keep}
use Rattle.ps_bundles.proofs.laws.calls_keep_what_was_asked.Goals as goal

pub returns-clause-exprs : goal.returns-clause-exprs
returns-clause-exprs c = exprs_keep

pub returns-clause-selects : goal.returns-clause-selects
returns-clause-selects c = selects_keep
