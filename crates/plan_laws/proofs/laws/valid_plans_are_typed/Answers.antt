use Rattle.ps_plan.proofs.ValidTyped.{reached-typed}
use Rattle.plan_laws.proofs.laws.valid_plans_are_typed.Goals as goal

pub returns : goal.returns
returns c = λ F plan n valid holds reached. reached-typed F plan valid holds n reached
