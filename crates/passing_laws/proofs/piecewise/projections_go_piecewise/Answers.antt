use Rattle.passing_laws.proofs.ExactPieces.{project-goes}
use Rattle.passing_laws.proofs.piecewise.projections_go_piecewise.Goals as goal

pub returns : goal.returns
returns c = λ F p s ns kind same. project-goes F p s ns kind same
