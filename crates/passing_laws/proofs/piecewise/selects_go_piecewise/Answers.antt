use Rattle.passing_laws.proofs.SelectPieces.{select-goes}
use Rattle.passing_laws.proofs.piecewise.selects_go_piecewise.Goals as goal

pub returns : goal.returns
returns c = λ F p s es kind same h reads k. select-goes F p s es kind same h reads k
