use Rattle.expression_reads.proofs.Narrowed.{read-column, read-kind}
use Rattle.expression_reads.proofs.laws.expressions_read_what_they_name.Goals as goal

pub returns-clause-column : goal.returns-clause-column
returns-clause-column c = read-column

pub returns-clause-kind : goal.returns-clause-kind
returns-clause-kind c = read-kind
