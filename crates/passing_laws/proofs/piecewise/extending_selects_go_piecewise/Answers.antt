use Rattle.passing_laws.proofs.SelectPieces.{extend-goes}
use Rattle.passing_laws.proofs.piecewise.extending_selects_go_piecewise.Goals as goal

pub returns : goal.returns
returns c = λ F p s es kind same n h k. extend-goes F p s es kind same n h k
