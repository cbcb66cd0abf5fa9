use Rattle.ps_rowwise.proofs.Ignoring.{same-column, same-kind}
use Rattle.ps_rowwise.proofs.laws.independent_columns_ignore_the_table.Goals as goal

pub returns-clause-column : goal.returns-clause-column
returns-clause-column c = λ node T U t h. same-column node T U t h

pub returns-clause-kind : goal.returns-clause-kind
returns-clause-kind c = λ s r t h. same-kind s r t h
