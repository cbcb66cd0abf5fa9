use Rattle.plan_sizes.proofs.Steps.{groups_insert_few, slices_insert_one}
use Rattle.plan_sizes.proofs.laws.groups_insert_few.Goals as goal

pub returns-clause-groups : goal.returns-clause-groups
returns-clause-groups c = groups_insert_few

pub returns-clause-slices : goal.returns-clause-slices
returns-clause-slices c = slices_insert_one
