use Rattle.world_runs.proofs.RefusedSteps.{fifth as it-fifth, sixth as it-sixth}
use Rattle.world_runs.proofs.refused.claims_want_a_place.Goals as goal

pub returns-clause-fifth : goal.returns-clause-fifth
returns-clause-fifth c = it-fifth

pub returns-clause-sixth : goal.returns-clause-sixth
returns-clause-sixth c = it-sixth
