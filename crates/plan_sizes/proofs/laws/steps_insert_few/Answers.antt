use Rattle.plan_sizes.proofs.Steps.{steps_insert_few}
use Rattle.plan_sizes.proofs.laws.steps_insert_few.Goals as goal

pub returns : goal.returns
returns c = steps_insert_few
