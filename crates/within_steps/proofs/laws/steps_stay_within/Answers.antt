use Rattle.within_steps.proofs.Stays.{steps_stay}
use Rattle.within_steps.proofs.laws.steps_stay_within.Goals as goal

pub returns : goal.returns
returns c = λ F at step ps ls T lawful w k. steps_stay F lawful at step ps ls T w k
