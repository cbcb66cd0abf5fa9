use Rattle.ps_meaning.proofs.MeaningFits.{means-fits}
use Rattle.ps_plan.proofs.ValidTyped.{reached-typed}
use Rattle.plan_laws.proofs.laws.valid_plans_rows_fit.Goals as goal

pub returns : goal.returns
returns c = λ F choice plan n T lawful valid holds reached m. means-fits F lawful choice m (reached-typed F plan valid holds n reached)
