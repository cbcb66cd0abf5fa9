use Rattle.ps_rowwise.proofs.RowLaws.{one-cell}
use Rattle.ps_rowwise.proofs.laws.elementwise_columns_without_input_are_one_cell.Goals as goal

pub returns : goal.returns
returns c = λ node T t h i k. one-cell node T t h i k
