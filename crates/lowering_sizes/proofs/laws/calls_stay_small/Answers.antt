use Rattle.lowering_sizes.proofs.Sizes.{exprs_stay_small, selects_stay_small}
use Rattle.lowering_sizes.proofs.laws.calls_stay_small.Goals as goal

pub returns-clause-exprs : goal.returns-clause-exprs
returns-clause-exprs c = exprs_stay_small

pub returns-clause-selects : goal.returns-clause-selects
returns-clause-selects c = selects_stay_small
