use Rattle.std.proofs.Common.{refl}
use Rattle.expression_reads.proofs.examples.tables_with_columns_of_another.Goals as goal

pub returns-clause-one : goal.returns-clause-one
returns-clause-one c = record { fields = refl; rows = refl }

pub returns-clause-none : goal.returns-clause-none
returns-clause-none c = record { fields = refl; rows = refl }

pub returns-clause-misnamed : goal.returns-clause-misnamed
returns-clause-misnamed c = λ h. let e = h.rows in cc
