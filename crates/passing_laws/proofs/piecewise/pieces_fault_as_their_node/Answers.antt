use Rattle.passing_laws.proofs.PieceFaults.{piece-faults, piece-overflows}
use Rattle.passing_laws.proofs.SoundPieces.{sound-fewer, sound-part-faults}
use Rattle.passing_laws.proofs.piecewise.pieces_fault_as_their_node.Goals as goal

pub returns-clause-causes : goal.returns-clause-causes
returns-clause-causes c = λ F shape n p s sound there kind reads from k front a stands. piece-faults F p s kind (sound-part-faults F shape n p s sound there kind reads) from k front a stands

pub returns-clause-rows : goal.returns-clause-rows
returns-clause-rows c = λ F shape n p s sound there kind reads from k front a stands. piece-overflows F p s (sound-fewer F shape n p s sound there kind reads) from k front a stands
