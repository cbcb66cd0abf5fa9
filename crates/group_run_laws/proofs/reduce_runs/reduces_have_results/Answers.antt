use Rattle.group_run_laws.proofs.ReduceAnswers.{reduce_results}
use Rattle.group_run_laws.proofs.reduce_runs.reduces_have_results.Goals as goal

pub returns : goal.returns
returns c = λ F shape o w n node es sound r there is q out at. reduce_results F shape o w sound r n node es there is q out at
