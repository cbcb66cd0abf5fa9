use Rattle.rule_soundness.proofs.Plans.{plans_stay_sound}
use Rattle.rule_soundness.proofs.laws.plans_stay_sound.Goals as goal

pub returns : goal.returns
returns c = plans_stay_sound
