use Rattle.ps_bundles.proofs.StepEnds.{aggregates_end, filters_end, sort_bys_end, sorts_end}
use Rattle.ps_bundles.proofs.laws.steps_end_as_expressions.Goals as goal

pub returns-clause-sorts : goal.returns-clause-sorts
returns-clause-sorts c = sorts_end

pub returns-clause-filters : goal.returns-clause-filters
returns-clause-filters c = filters_end

pub returns-clause-key_sorts : goal.returns-clause-key_sorts
returns-clause-key_sorts c = sort_bys_end

pub returns-clause-aggregates : goal.returns-clause-aggregates
returns-clause-aggregates c = aggregates_end
