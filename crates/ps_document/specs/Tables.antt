-- The JSON of a table.
use Rattle.std.specs.Prelude.{ℕ, suc, ◌<◌, ◌^◌, ◌≡◌, List, [], ◌∷◌, IsTrue, FitsSigned, ⊤}
use Rattle.std.specs.Int.{w64}
use Rattle.std.specs.List.{AllByRecursion}
use Rattle.serde_json.specs.Data.{Data, null}
use Rattle.ps_frame.specs.Frames.{has_distinct_names}
use Rattle.ps_frame.specs.Lawful.{FitsFrame}
use Rattle.ps_frame.specs.Pushed.{with_value}
use Rattle.ps_frame.specs.Series.{Series}
use Rattle.ps_frame.specs.Tables.{Fields, Frame, values_at}
use Rattle.ps_frame.specs.Values.{fits_kind}
use Rattle.ps_frame.specs.declared.value.DataType.{DataType}
use Rattle.ps_frame.specs.declared.value.Value.{Value}
use Rattle.ps_frame.specs.declared.value.Value.TheVariants as val
use Rattle.ps_document.specs.Json.{count, list, list_of, text, truth, whole_number}
use Rattle.ps_document.specs.Words.{kind_word}

abbrev pub cell_json : Value → Data
cell_json val.Null = null
cell_json (val.Boolean b) = truth b
cell_json (val.Int64 z) = whole_number z
cell_json (val.IdxSize n) = count n
cell_json (val.String s) = text s

-- a whole number has 64 bits with a sign, a row number 32 without one
abbrev pub FitsItsWidth : Value → Type 0
FitsItsWidth (val.Int64 z) = FitsSigned w64 z
FitsItsWidth (val.IdxSize n) = n < 2 ^ 32
FitsItsWidth _ = ⊤

-- the JSON is that of a cell, which may stand in a column of the kind
pub record IsCell (k : DataType) (v : Value) (d : Data) : Type 0 where
  pub json : d ≡ cell_json v
  pub fits : IsTrue (fits_kind k v)
  pub width : FitsItsWidth v

-- a column has one more cell at its end, and this is its JSON
pub record HasCellMore (d : Data) (old new : Series) : Type 0 where
  pub cell : Value
  pub grown : new ≡ with_value old cell
  pub is_cell : IsCell old.kind cell d

-- a column: its name, its kind and its cells
abbrev pub column_json : List ℕ → DataType → List Value → Data
column_json name dtype values = list (text name ∷ text (kind_word dtype) ∷ list_of cell_json values ∷ [])

-- the columns of the fields from place i on
abbrev pub columns_from : ℕ → Fields → List (List Value) → List Data
columns_from i [] rows = []
columns_from i (f ∷ fs) rows = column_json f.0 f.1 (values_at i rows) ∷ columns_from (suc i) fs rows

abbrev pub table_json : Frame → Data
table_json f = list (columns_from 0 f.schema f.rows)

-- the JSON is that of the table: its rows have a value for each field, no name stands twice, and no columns make no rows
pub record IsTable (f : Frame) (d : Data) : Type 0 where
  pub json : d ≡ table_json f
  pub fits : FitsFrame f
  pub widths : AllByRecursion (AllByRecursion FitsItsWidth) f.rows
  pub names : IsTrue (has_distinct_names f.schema)
  pub empty : f.schema ≡ [] → f.rows ≡ []
