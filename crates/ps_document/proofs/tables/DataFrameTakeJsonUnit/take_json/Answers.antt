use Rattle.std.proofs.Common.{subst}
use Rattle.serde_json.specs.View.{view}
use Rattle.ps_document.proofs.CellColumns.{no_columns}
use Rattle.ps_document.proofs.Lists.{where_none}
use Rattle.ps_document.specs.Tables.{IsTable}
use Rattle.ps_document.proofs.tables.DataFrameTakeJsonUnit.take_json.Goals as goal

pub returns-in-None-clause-none : goal.returns-in-None-clause-none
returns-in-None-clause-none c = no_columns (view c.args.value) (rw c.in-None.is at c.in_ok-columns.ensures.none)

pub returns-in-Some-clause-none : goal.returns-in-Some-clause-none
returns-in-Some-clause-none c =
    let found = rw c.in-Some.is at c.in_ok-columns.ensures.some in
    where_none c.table_of.result (λ none f t. none f found.0 found.2 (subst (IsTable f) found.1 t)) c.table_of.ensures.none
