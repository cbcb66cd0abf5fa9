use Rattle.ps_rowwise.proofs.RowLaws.{cell-each, cells-alone, ended-only, ends-with, spreads}
use Rattle.ps_rowwise.proofs.laws.elementwise_columns_go_row_by_row.Goals as goal

pub returns-clause-cells : goal.returns-clause-cells
returns-clause-cells c = λ node T t g. cells-alone node T t g

pub returns-clause-count : goal.returns-clause-count
returns-clause-count c = λ node T t g. cell-each node T t g

pub returns-clause-ended : goal.returns-clause-ended
returns-clause-ended c = λ node T t g. (ended-only node T t g, ends-with node T t g)

pub returns-clause-lost : goal.returns-clause-lost
returns-clause-lost c = λ node T t g some. (spreads node T t g).2 some
