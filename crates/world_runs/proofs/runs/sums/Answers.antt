use Rattle.world_runs.proofs.SumJournalSteps.{leaves}
use Rattle.world_runs.proofs.runs.sums.Goals as goal

pub returns : goal.returns
returns c = λ F. leaves F
