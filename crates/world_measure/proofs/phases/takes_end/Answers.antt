use Rattle.world_measure.proofs.OverPhases as over
use Rattle.world_measure.proofs.phases.takes_end.Goals as goal

pub returns : goal.returns
returns c = λ F shape o w sound reached. over.takes_end F shape o w sound reached
