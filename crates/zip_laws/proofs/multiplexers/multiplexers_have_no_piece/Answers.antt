use Rattle.zip_laws.proofs.MuxLaw.{multiplexers_have_no_piece}
use Rattle.zip_laws.proofs.multiplexers.multiplexers_have_no_piece.Goals as goal

pub returns : goal.returns
returns c = λ F shape o w n node q sound r at is c e. multiplexers_have_no_piece F shape o w n node sound r at is q c e
