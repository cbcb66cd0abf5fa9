use Rattle.lowering_sound.proofs.Sounding.{exprs_stay_sound, selects_stay_sound}
use Rattle.lowering_sound.proofs.laws.calls_stay_sound.Goals as goal

pub returns-clause-exprs : goal.returns-clause-exprs
returns-clause-exprs c = exprs_stay_sound

pub returns-clause-selects : goal.returns-clause-selects
returns-clause-selects c = selects_stay_sound
