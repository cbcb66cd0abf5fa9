use Rattle.turn_laws.proofs.Ending.{goes_on}
use Rattle.turn_laws.proofs.laws.each_update_goes_on.Goals as goal

pub returns : goal.returns
returns c = λ F o a given fit ports. goes_on F o a given fit ports
