use Rattle.passing_laws.proofs.IndexPieces.{index-goes}
use Rattle.passing_laws.proofs.piecewise.row_indexes_go_on.Goals as goal

pub returns : goal.returns
returns c = λ F p s name offset kind same. index-goes F p s name offset kind same
