use Rattle.world_runs.proofs.SliceRunSteps.{leaves}
use Rattle.world_runs.proofs.runs.slices.Goals as goal

pub returns : goal.returns
returns c = λ F. leaves F
