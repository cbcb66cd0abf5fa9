use Rattle.passing_laws.proofs.BookingCases.{index-restarts, slice-restarts}
use Rattle.passing_laws.proofs.piecewise.pieces_are_not_alone.Goals as goal

pub returns-clause-index : goal.returns-clause-index
returns-clause-index c = λ F g. index-restarts F g

pub returns-clause-slice : goal.returns-clause-slice
returns-clause-slice c = λ F g. slice-restarts F g
