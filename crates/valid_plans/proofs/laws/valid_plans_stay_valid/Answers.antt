use Rattle.valid_plans.proofs.Staying.{stays-with, tree-stays}
use Rattle.valid_plans.proofs.laws.valid_plans_stay_valid.Goals as goal

pub returns-clause-valid : goal.returns-clause-valid
returns-clause-valid c = λ F v exprs more h. stays-with F v exprs more h

pub returns-clause-trees : goal.returns-clause-trees
returns-clause-trees c = λ F v exprs more n h reached. tree-stays F v exprs more h.valid n reached
