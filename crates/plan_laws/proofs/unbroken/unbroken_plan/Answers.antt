use Rattle.plan_laws.proofs.UnbrokenPlan.{nothing-breaks}
use Rattle.plan_laws.proofs.unbroken.unbroken_plan.Goals as goal

pub returns : goal.returns
returns c = nothing-breaks
