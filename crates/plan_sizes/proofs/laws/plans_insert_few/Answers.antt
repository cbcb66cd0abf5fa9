use Rattle.plan_sizes.proofs.Plans.{plans_insert}
use Rattle.plan_sizes.proofs.laws.plans_insert_few.Goals as goal

pub returns : goal.returns
returns c = plans_insert
