use Rattle.lowering_names.proofs.Ruled.{exprs_keep_rules, selects_keep_rules}
use Rattle.lowering_names.proofs.laws.calls_keep_rules.Goals as goal

pub returns-clause-exprs : goal.returns-clause-exprs
returns-clause-exprs c = exprs_keep_rules

pub returns-clause-selects : goal.returns-clause-selects
returns-clause-selects c = selects_keep_rules
