use Rattle.std.proofs.Common.{refl}
use Rattle.world_runs.proofs.small_worlds.heads_after_claims.Goals as goal

pub returns-clause-keeps_its_row : goal.returns-clause-keeps_its_row
returns-clause-keeps_its_row c = refl

pub returns-clause-spent_heads : goal.returns-clause-spent_heads
returns-clause-spent_heads c = refl
