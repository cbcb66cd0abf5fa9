use Rattle.step_keeps.proofs.Steps.{functions_keep, hconcats_keep, projections_keep, row_numbers_keep, sinks_keep, sorts_keep}
use Rattle.step_keeps.proofs.laws.single_nodes_keep_their_step.Goals as goal

pub returns-clause-projections : goal.returns-clause-projections
returns-clause-projections c = projections_keep

pub returns-clause-sinks : goal.returns-clause-sinks
returns-clause-sinks c = sinks_keep

pub returns-clause-row_numbers : goal.returns-clause-row_numbers
returns-clause-row_numbers c = row_numbers_keep

pub returns-clause-functions : goal.returns-clause-functions
returns-clause-functions c = functions_keep

pub returns-clause-sorts : goal.returns-clause-sorts
returns-clause-sorts c = sorts_keep

pub returns-clause-hconcats : goal.returns-clause-hconcats
returns-clause-hconcats c = hconcats_keep
