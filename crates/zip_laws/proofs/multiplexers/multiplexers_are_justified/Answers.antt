use Rattle.zip_laws.proofs.MuxLaw.{multiplexers_are_justified}
use Rattle.zip_laws.proofs.multiplexers.multiplexers_are_justified.Goals as goal

pub returns : goal.returns
returns c = λ F shape o w n p sound r e is. multiplexers_are_justified F shape o w n p sound r e is
