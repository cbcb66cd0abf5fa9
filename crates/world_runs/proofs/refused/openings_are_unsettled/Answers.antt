use Rattle.world_runs.proofs.RefusedSteps.{unsettled}
use Rattle.world_runs.proofs.refused.openings_are_unsettled.Goals as goal

pub returns : goal.returns
returns c = unsettled
