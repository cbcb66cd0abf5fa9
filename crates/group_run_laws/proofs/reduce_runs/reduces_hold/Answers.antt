use Rattle.std.proofs.Common.{ap}
use Rattle.group_run_laws.proofs.ReduceHolds.{reduces_hold}
use Rattle.group_run_laws.proofs.Reduces.{is_reduce}
use Rattle.group_run_laws.proofs.reduce_runs.reduces_hold.Goals as goal

pub returns : goal.returns
returns c = λ F shape o w n p es sound r e is. reduces_hold F shape o w n p sound r e (ap is_reduce is)
