use Rattle.std.proofs.Common.{refl}
use Rattle.world_runs.proofs.small_worlds.selects_without_input.Goals as goal

pub returns-clause-claims_one : goal.returns-clause-claims_one
returns-clause-claims_one c = refl

pub returns-clause-claims_no_more : goal.returns-clause-claims_no_more
returns-clause-claims_no_more c = refl
