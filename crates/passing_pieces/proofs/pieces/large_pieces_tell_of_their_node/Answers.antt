use Rattle.passing_pieces.proofs.LargeAnswers.{lawful-for, sound-large}
use Rattle.passing_pieces.proofs.pieces.large_pieces_tell_of_their_node.Goals as goal

pub returns : goal.returns
returns c = λ F shape n p s laws sound there kind reads from k front a stands U before long. sound-large F shape n p s sound there kind (lawful-for F p.kind kind laws) reads from k front a stands U before long
