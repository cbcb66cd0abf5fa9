use Rattle.plan_laws.proofs.LoweredSteps.{causes-above, sizes-above, tables-above}
use Rattle.plan_laws.proofs.lowering.lowered_steps_compose.Goals as goal

pub returns-clause-tables : goal.returns-clause-tables
returns-clause-tables c = tables-above

pub returns-clause-causes : goal.returns-clause-causes
returns-clause-causes c = causes-above

pub returns-clause-sizes : goal.returns-clause-sizes
returns-clause-sizes c = sizes-above
