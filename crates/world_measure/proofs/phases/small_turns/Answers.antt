use Rattle.std.proofs.Common.{refl}
use Rattle.world_measure.proofs.phases.small_turns.Goals as goal

pub returns-clause-over_phases : goal.returns-clause-over_phases
returns-clause-over_phases c = refl

pub returns-clause-one_done : goal.returns-clause-one_done
returns-clause-one_done c = refl

pub returns-clause-gives : goal.returns-clause-gives
returns-clause-gives c = refl
