use Rattle.ps_rowwise.proofs.OneCell.{scalar-one, value-one}
use Rattle.ps_rowwise.proofs.laws.scalars_give_one_cell.Goals as goal

pub returns-clause-cell : goal.returns-clause-cell
returns-clause-cell c = λ node T t h k whole. scalar-one node T t h k whole

pub returns-clause-value : goal.returns-clause-value
returns-clause-value c = λ node T t h k clean. value-one node T t h k clean
