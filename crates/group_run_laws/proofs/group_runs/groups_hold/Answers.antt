use Rattle.std.proofs.Common.{ap}
use Rattle.group_run_laws.proofs.GroupHolds.{groups_hold}
use Rattle.group_run_laws.proofs.Groups.{is_group}
use Rattle.group_run_laws.proofs.group_runs.groups_hold.Goals as goal

pub returns : goal.returns
returns c = λ F shape o w n p keys aggregates sound r e is. groups_hold F shape o w n p sound r e (ap is_group is)
