use Rattle.world_runs.proofs.FullRunSteps.{leaves}
use Rattle.world_runs.proofs.runs.full_joins.Goals as goal

pub returns : goal.returns
returns c = λ F. leaves F
