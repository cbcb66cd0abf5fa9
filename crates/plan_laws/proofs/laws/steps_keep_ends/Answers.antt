use Rattle.plan_laws.proofs.AlikeSteps.{steps-keep}
use Rattle.plan_laws.proofs.laws.steps_keep_ends.Goals as goal

pub returns : goal.returns
returns c = steps-keep
