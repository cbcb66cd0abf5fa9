use Rattle.passing_laws.proofs.FilterPieces.{filter-goes}
use Rattle.passing_laws.proofs.piecewise.filters_go_piecewise.Goals as goal

pub returns : goal.returns
returns c = λ F p s e kind same n h k. filter-goes F p s e kind same n h k
