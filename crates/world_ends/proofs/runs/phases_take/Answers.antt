use Rattle.world_ends.proofs.NotIdle as phases
use Rattle.world_ends.proofs.runs.phases_take.Goals as goal

pub returns-clause-takes : goal.returns-clause-takes
returns-clause-takes c = λ F shape o sound. phases.phases_take F shape o sound

pub returns-clause-not_idle : goal.returns-clause-not_idle
returns-clause-not_idle c = λ F shape o sound. phases.not_idle F shape o sound
