use Rattle.group_run_laws.proofs.ReduceHolds.{reduces_are_justified}
use Rattle.group_run_laws.proofs.reduce_runs.reached_reduces_are_justified.Goals as goal

pub returns : goal.returns
returns c = λ F shape o w n p es sound r e is. reduces_are_justified F shape o w n p es sound r e is
