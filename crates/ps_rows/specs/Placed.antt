-- Columns that take the places of others.
use Rattle.std.specs.Prelude.{◌≡◌, ◌+◌, ℕ, List, map, length, slice_get, unwrap_or, Option, Some, None}
use Rattle.std.specs.List.{AllByRecursion, AllZip}
use Rattle.ps_frame.specs.Tables.{Fields, field_index}
use Rattle.ps_frame.specs.Series.{Series}

-- the place of a name among a table's columns and new ones behind them: that of the new column of the name, else of the table's
abbrev pub new_or_old : ℕ → Option ℕ → Option ℕ → ℕ
new_or_old width None old = unwrap_or old 0
new_or_old width (Some k) old = width + k

abbrev pub place_in : Fields → Fields → List ℕ → ℕ
place_in table new name = new_or_old (length table) (field_index name new) (field_index name table)

-- a column of the field's kind stands at the place of its name
abbrev pub ArePlaced : Fields → Fields → List Series → Fields → Type 0
ArePlaced table new columns fields = AllByRecursion (λ f. slice_get (map (λ (c : Series). c.kind) columns) (place_in table new f.0) ≡ Some f.1) fields

-- for each field the column at the place of its name
abbrev pub TakesPlaces : Fields → Fields → List Series → Fields → List Series → Type 0
TakesPlaces table new columns fields out = AllZip (λ f c. slice_get columns (place_in table new f.0) ≡ Some c) fields out
