use Rattle.step_keeps.proofs.OneInput.{lowers_step}
use Rattle.step_keeps.proofs.laws.kept_steps_are_lowered.Goals as goal

pub returns : goal.returns
returns c = lowers_step
