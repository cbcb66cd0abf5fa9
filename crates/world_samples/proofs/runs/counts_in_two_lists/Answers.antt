use Rattle.world_samples.proofs.GroupRunSteps.{leaves}
use Rattle.world_samples.proofs.runs.counts_in_two_lists.Goals as goal

pub returns : goal.returns
returns c = λ F. leaves F
