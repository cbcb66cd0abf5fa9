use Rattle.world_measure.proofs.Phase as phase
use Rattle.world_measure.proofs.measure.phases_end.Goals as goal

pub returns : goal.returns
returns c = λ F shape o w sound reached. phase.phases_end F shape o w sound reached
