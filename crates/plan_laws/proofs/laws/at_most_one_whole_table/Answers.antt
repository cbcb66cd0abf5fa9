use Rattle.plan_laws.proofs.OneWhole.{one-whole}
use Rattle.ps_plan.proofs.ReachedSteps.{each-step}
use Rattle.plan_laws.specs.Laws.{FixesOrder}
use Rattle.ps_plan.specs.Plans.{tree_of}
use Rattle.plan_laws.proofs.laws.at_most_one_whole_table.Goals as goal

pub returns-clause-of_plans : goal.returns-clause-of_plans
returns-clause-of_plans c = λ F plan T U lawful all m n. one-whole F lawful (tree_of plan plan.root.0) T U (each-step plan FixesOrder all) m n

pub returns-clause-of_trees : goal.returns-clause-of_trees
returns-clause-of_trees c = λ F t T U lawful all m n. one-whole F lawful t T U all m n
