use Rattle.std.proofs.Common.{ap}
use Rattle.group_run_laws.proofs.GroupHolds.{group_ports}
use Rattle.group_run_laws.proofs.Groups.{is_group}
use Rattle.group_run_laws.proofs.group_runs.groups_keep_ports.Goals as goal

pub returns : goal.returns
returns c = λ F shape o w n s sound r shut run u node keys aggregates there is rest. group_ports F shape o w sound r n s shut run u node there (ap is_group is) rest
