use Rattle.group_run_laws.proofs.GroupAnswers.{group_results}
use Rattle.group_run_laws.proofs.group_runs.groups_have_results.Goals as goal

pub returns : goal.returns
returns c = λ F shape o w n node keys aggregates sound r there is q out at. group_results F shape o w sound r n node keys aggregates there is q out at
