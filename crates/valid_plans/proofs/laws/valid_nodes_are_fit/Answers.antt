use Rattle.ps_plan.proofs.ValidPlans.{reached-complete}
use Rattle.ps_walks.proofs.Fits.{step-fits}
use Rattle.valid_plans.proofs.laws.valid_nodes_are_fit.Goals as goal
use Rattle.valid_plans.specs.Valid.{plan_with}

pub returns-clause-complete : goal.returns-clause-complete
returns-clause-complete c = λ F v exprs n h reached. reached-complete F (plan_with v exprs) h.valid n reached

pub returns-clause-fit : goal.returns-clause-fit
returns-clause-fit c = λ F v exprs n e h reached is. step-fits F (plan_with v exprs) h.valid h.typed n reached e is
