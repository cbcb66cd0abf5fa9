use Rattle.group_run_laws.proofs.ReduceAnswers.{reduce_names}
use Rattle.group_run_laws.proofs.reduce_runs.reduces_name_causes.Goals as goal

pub returns : goal.returns
returns c = λ F shape o w n node es sound r there is j cause f. reduce_names F shape o w sound r n node es there is j cause f
