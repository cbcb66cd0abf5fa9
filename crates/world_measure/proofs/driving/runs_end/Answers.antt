use Rattle.world_measure.proofs.RunsEnd as whole
use Rattle.world_measure.proofs.driving.runs_end.Goals as goal

pub returns : goal.returns
returns c = λ F shape o w sound not_idle reached. whole.runs_end F shape o sound not_idle w reached
