use Rattle.group_run_laws.proofs.GroupAnswers.{group_names}
use Rattle.group_run_laws.proofs.group_runs.groups_name_causes.Goals as goal

pub returns : goal.returns
returns c = λ F shape o w n node keys aggregates sound r there is j cause f. group_names F shape o w sound r n node keys aggregates there is j cause f
