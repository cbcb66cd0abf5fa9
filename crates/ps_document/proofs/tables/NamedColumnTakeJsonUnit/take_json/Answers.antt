use Rattle.std.proofs.Common.{refl, subst, sym}
use Rattle.serde_json.specs.View.{view}
use Rattle.ps_frame.specs.Series.{Series}
use Rattle.ps_document.proofs.CellColumns.{made_column, no_column}
use Rattle.ps_document.specs.Columns.{IsColumn}
use Rattle.ps_document.proofs.tables.NamedColumnTakeJsonUnit.take_json.Goals as goal

pub returns-in_default-2-clause-none : goal.returns-in_default-2-clause-none
returns-in_default-2-clause-none c = no_column (view c.args.value) (view c.in-Some.cells) c.in-Some.name c.in-Some.dtype c.in-Some.ensures.some (rw c.in_default-2.is at c.in_ok-values.ensures.none)

pub returns-in-Ok-clause-some : goal.returns-in-Ok-clause-some
returns-in-Ok-clause-some c =
    let found = rw c.in-Some-2.is at c.in_ok-values.ensures.some in
    let read = made_column (view c.args.value) (view c.in-Some.cells) c.in-Some.dtype found.0 (record { name = c.in-Some.name; column = record { kind = c.in-Some.dtype; values = c.in-Some-2.values.items } }) c.in-Some.ensures.some found.1 found.2 refl in
    subst (λ (t : Series). IsColumn (record { name = c.in-Some.name; column = t }) (view c.args.value)) (sym c.in-Ok.ensures.ok) read
