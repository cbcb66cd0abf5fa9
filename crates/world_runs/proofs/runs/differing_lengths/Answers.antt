use Rattle.world_runs.proofs.DifferingRunSteps.{leaves}
use Rattle.world_runs.proofs.runs.differing_lengths.Goals as goal

pub returns : goal.returns
returns c = λ F. leaves F
