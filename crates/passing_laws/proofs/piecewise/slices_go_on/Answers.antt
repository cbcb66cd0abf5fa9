use Rattle.passing_laws.proofs.SlicePieces.{slice-goes}
use Rattle.passing_laws.proofs.piecewise.slices_go_on.Goals as goal

pub returns : goal.returns
returns c = λ F p s offset n kind same. slice-goes F p s offset n kind same
