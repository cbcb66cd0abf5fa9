use Rattle.ps_plan.proofs.Complete.{expr-complete, node-is-complete}
use Rattle.ps_plan.proofs.ValidPlans.{reached-complete}
use Rattle.plan_laws.proofs.laws.trees_are_complete.Goals as goal

pub returns-clause-expressions : goal.returns-clause-expressions
returns-clause-expressions c = λ plan e clear range. expr-complete plan e clear range

pub returns-clause-nodes : goal.returns-clause-nodes
returns-clause-nodes c = λ plan n clear range. node-is-complete plan n clear range

pub returns-clause-of_valid_plans : goal.returns-clause-of_valid_plans
returns-clause-of_valid_plans c = λ F plan n valid reached. reached-complete F plan valid n reached
