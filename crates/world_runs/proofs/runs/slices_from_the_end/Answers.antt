use Rattle.world_runs.proofs.EndsRunSteps.{leaves}
use Rattle.world_runs.proofs.runs.slices_from_the_end.Goals as goal

pub returns : goal.returns
returns c = λ F. leaves F
