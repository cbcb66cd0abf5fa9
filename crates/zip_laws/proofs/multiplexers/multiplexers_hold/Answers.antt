use Rattle.zip_laws.proofs.MuxLaw.{multiplexers_hold}
use Rattle.zip_laws.proofs.multiplexers.multiplexers_hold.Goals as goal

pub returns : goal.returns
returns c = λ F shape o w n p sound r e is. multiplexers_hold F shape o w n p sound r e is
