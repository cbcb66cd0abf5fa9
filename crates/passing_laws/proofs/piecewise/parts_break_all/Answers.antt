use Rattle.passing_laws.proofs.SoundPieces.{sound-part-faults}
use Rattle.passing_laws.proofs.piecewise.parts_break_all.Goals as goal

pub returns : goal.returns
returns c = λ F shape n p s sound there kind reads. sound-part-faults F shape n p s sound there kind reads
