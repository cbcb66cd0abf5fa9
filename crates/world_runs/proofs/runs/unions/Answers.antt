use Rattle.world_runs.proofs.UnionRunSteps.{leaves}
use Rattle.world_runs.proofs.runs.unions.Goals as goal

pub returns : goal.returns
returns c = λ F. leaves F
