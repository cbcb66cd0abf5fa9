use Rattle.std.proofs.Common.{ap}
use Rattle.group_run_laws.proofs.ReduceHolds.{reduce_ports}
use Rattle.group_run_laws.proofs.Reduces.{is_reduce}
use Rattle.group_run_laws.proofs.reduce_runs.reduces_keep_ports.Goals as goal

pub returns : goal.returns
returns c = λ F shape o w n s sound r shut run u node es there is rest. reduce_ports F shape o w sound r n s shut run u node there (ap is_reduce is) rest
