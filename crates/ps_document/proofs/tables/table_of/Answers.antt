use Rattle.std.proofs.Common.{refl, rules}
use Rattle.ps_document.proofs.FrameColumns.{made_table, no-table, table-heights}
use Rattle.ps_document.proofs.tables.table_of.Goals as goal

pub returns-in_default-clause-none : goal.returns-in_default-clause-none
returns-in_default-clause-none c = λ f ds z t. no-table f c.args.columns.items ds (rw c.in_default.is at c.in_ok-schema.ensures.none) z t

pub returns-in-Ok-clause-some : goal.returns-in-Ok-clause-some
returns-in-Ok-clause-some c = λ ds z.
    let told = c.in_ok-schema.ensures in
    made_table c.args.columns.items ds c.in-Ok.df c.in-Some.schema c.in-Some.columns.items z (rw c.in-Some.is at told.distinct) (rw c.in-Some.is at told.schema) (rw c.in-Some.is at told.columns) c.in-Ok.ensures.made (c.in-Ok.ensures.ok.0 refl)

pub returns-in-Err-Height-clause-none : goal.returns-in-Err-Height-clause-none
returns-in-Err-Height-clause-none c = λ f ds z t.
    let told = c.in_ok-schema.ensures in
    let h = c.in-Err-Height.ensures.height in
    h.0 (search rules) (table-heights f c.args.columns.items ds c.in-Some.schema c.in-Some.columns.items z t (rw c.in-Some.is at told.schema) (rw c.in-Some.is at told.columns))
