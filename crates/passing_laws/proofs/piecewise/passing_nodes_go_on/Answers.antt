use Rattle.passing_laws.proofs.SoundPieces.{sound-goes-on}
use Rattle.passing_laws.proofs.piecewise.passing_nodes_go_on.Goals as goal

pub returns : goal.returns
returns c = λ F shape n p s sound there kind reads. sound-goes-on F shape n p s sound there kind reads
