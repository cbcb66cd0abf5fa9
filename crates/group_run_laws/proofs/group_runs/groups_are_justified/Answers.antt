use Rattle.group_run_laws.proofs.GroupFronts.{groups_are_justified}
use Rattle.group_run_laws.proofs.group_runs.groups_are_justified.Goals as goal

pub returns : goal.returns
returns c = λ F shape o w n p keys aggregates sound r e is. groups_are_justified F shape o w n p keys aggregates sound r e is
