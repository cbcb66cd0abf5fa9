use Rattle.rule_nodes.proofs.Steps.{steps_stay_sound}
use Rattle.rule_nodes.proofs.laws.steps_stay_sound.Goals as goal

pub returns : goal.returns
returns c = steps_stay_sound
