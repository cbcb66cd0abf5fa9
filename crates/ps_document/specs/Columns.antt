-- The columns of a table, each with its name.
use Rattle.std.specs.Prelude.{ℕ, ◌≡◌, List, IsTrue, map}
use Rattle.std.specs.List.{AllByRecursion}
use Rattle.serde_json.specs.Data.{Data}
use Rattle.ps_frame.specs.Tables.{Fields}
use Rattle.ps_frame.specs.Series.{Series, all_fit}
use Rattle.ps_frame.specs.declared.value.DataType.{DataType}
use Rattle.ps_document.specs.Tables.{FitsItsWidth, column_json}
use Rattle.ps_document.specs.declared.tables.NamedColumn.{NamedColumn}

-- the field of a column
abbrev pub field_of : NamedColumn → List ℕ × DataType
field_of c = (c.name, c.column.kind)

abbrev pub fields_of : List NamedColumn → Fields
fields_of cs = map field_of cs

abbrev pub typed_of : List NamedColumn → List Series
typed_of cs = map (λ (c : NamedColumn). c.column) cs

abbrev pub named_column_json : NamedColumn → Data
named_column_json c = column_json c.name c.column.kind c.column.values

-- the JSON is that of the column, whose cells are null or of its kind
pub record IsColumn (c : NamedColumn) (d : Data) : Type 0 where
  pub json : d ≡ named_column_json c
  pub fits : IsTrue (all_fit c.column.kind c.column.values)
  pub widths : AllByRecursion FitsItsWidth c.column.values
