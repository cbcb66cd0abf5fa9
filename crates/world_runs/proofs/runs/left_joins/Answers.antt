use Rattle.world_runs.proofs.JoinRun.{join_result}
use Rattle.world_runs.proofs.runs.left_joins.Goals as goal

pub returns : goal.returns
returns c = λ F. join_result F
