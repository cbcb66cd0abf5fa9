use Rattle.std.proofs.Common.{refl}
use Rattle.world_runs.proofs.keepers.stages_turn.Goals as goal

pub returns-clause-skips : goal.returns-clause-skips
returns-clause-skips c = refl

pub returns-clause-turns : goal.returns-clause-turns
returns-clause-turns c = refl

pub returns-clause-stays : goal.returns-clause-stays
returns-clause-stays c = refl
