use Rattle.within_plans.proofs.Induction.{root_means}
use Rattle.within_plans.proofs.laws.plans_stay_within.Goals as goal

pub returns : goal.returns
returns c = λ F stored names t lawful stands within sound. root_means F lawful stored names t stands within sound
