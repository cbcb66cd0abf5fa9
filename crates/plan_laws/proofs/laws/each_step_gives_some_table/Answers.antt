use Rattle.plan_laws.proofs.ChoiceLaw.{some_case}
use Rattle.plan_laws.proofs.laws.each_step_gives_some_table.Goals as goal

pub returns : goal.returns
returns c = λ F at step ts b. some_case F at step ts b
