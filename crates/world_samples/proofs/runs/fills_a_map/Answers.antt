use Rattle.world_samples.proofs.MapRunSteps.{leaves}
use Rattle.world_samples.proofs.runs.fills_a_map.Goals as goal

pub returns : goal.returns
returns c = λ F streams answers. leaves F streams answers
