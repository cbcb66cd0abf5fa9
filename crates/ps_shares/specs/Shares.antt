-- Tables that show what columns have in their rows.
use Rattle.std.specs.Prelude.{◌≡◌, ◌≢◌, ◌<◌, ◌≤◌, ◌⊎◌, ℕ, false, List, [], ◌∷◌, map, flat_map, length, get_or, IsTrue}
use Rattle.std.specs.List.{AllByRecursion}
use Rattle.ps_frame.specs.Causes.{Column, value}
use Rattle.ps_frame.specs.Functions.{Functions}
use Rattle.ps_frame.specs.Tables.{Fields, Table, columns_of}
use Rattle.ps_frame.specs.Zip.{cell_in_row, ends_early, extents, is_faulty_row, zip_length, zipped}
use Rattle.ps_frame.specs.declared.value.Value.{Value}
use Rattle.ps_meaning.specs.Cases.{Case, all_columns, columns_at, table_of}
use Rattle.ps_meaning.specs.Shape.{mild_zip}
use Rattle.ps_meaning.specs.Within.{Within}
use Rattle.ps_meaning.specs.Steps.{Named, exprs_of, select}

-- a column of a table: no faulty cell, and nothing lost
abbrev pub IsClear : Column → Type 0
IsClear c = ((vs : List Value) × (c.cells ≡ map value vs)) × (c.lost ≡ [])

-- Each row of the table has the values that the columns have there. There are no more rows than the columns' zip has; where the table is whole, all of them, and nothing ends the zip.
pub record Shows (t : Table) (cs : List Column) : Type 0 where
  pub few : length t.rows ≤ zip_length false (extents cs)
  pub whole : t.broken ≡ [] → (ends_early false cs ≡ false) × (length t.rows ≡ zip_length false (extents cs))
  pub rows : (i : ℕ) → i < length t.rows → map (cell_in_row false i) cs ≡ map value (get_or t.rows i [])

-- so many rows reach to the end of the columns' zip, or up to a row of it with a faulty cell
abbrev pub Reach : ℕ → List Column → Type 0
Reach n cs = (n ≡ zip_length false (extents cs)) ⊎ IsTrue (is_faulty_row (map (cell_in_row false n) cs))

-- The table's rows reach as far as they may, and it is whole where nothing ends the columns' zip and no row of that is missing.
pub record ShowsAll (t : Table) (cs : List Column) : Type 0 where
  pub reach : Reach (length t.rows) cs
  pub whole : ends_early false cs ≡ false → length t.rows ≡ zip_length false (extents cs) → t.broken ≡ []

-- The zip of columns, as a table, shows all of them.
abbrev pub ColumnsShowAll : Type 0
ColumnsShowAll = (at : ℕ) (s : Fields) (cs : List Column) → ShowsAll (table_of s (λ rows. rows) (zipped false at cs)) cs

-- Selects show their expressions: a select, a reduce, an in-memory map of a select. So one reduce of many expressions shows what the reduces that were merged into it show.
abbrev pub SelectsShow : Type 0
SelectsShow = (F : Functions) (at : ℕ) (es : List Named) (t T : Table) → Case F at (select es) (t ∷ []) T → Shows T (columns_at at (exprs_of es) t)

-- a table, and the columns that it shows
pub record Share : Type 0 where
  pub from : Table
  pub columns : List Column

-- the table shows them, one for each of its fields, of which there is one at least
pub record IsShare (h : Share) : Type 0 where
  pub shows : Shows h.from h.columns
  pub wide : length h.from.schema ≡ length h.columns
  pub rows : AllByRecursion (λ (row : List Value). length row ≡ length h.from.schema) h.from.rows
  pub some : h.columns ≢ []

abbrev pub tables_of : List Share → List Table
tables_of hs = map (λ (h : Share). h.from) hs

abbrev pub columns_shown : List Share → List Column
columns_shown hs = flat_map (λ (h : Share). h.columns) hs

-- Zips show what their inputs show. The rule that adds Shape only where no input is ended is needed for the causes, not for this.
abbrev pub ZipsShow : Type 0
ZipsShow = (at : ℕ) (s : Fields) (hs : List Share) → AllByRecursion IsShare hs → Shows (table_of s (λ rows. rows) (mild_zip at (all_columns (tables_of hs)))) (columns_shown hs)

-- The input shows its columns.
abbrev pub InputsShow : Type 0
InputsShow = (t : Table) → AllByRecursion (λ (row : List Value). length row ≡ length t.schema) t.rows → t.schema ≢ [] → Shows t (columns_of t)

-- A table within another shows what that shows.
abbrev pub ShowsLess : Type 0
ShowsLess = (p l : Table) (cs : List Column) → Within p l → Shows l cs → Shows p cs

-- Where tables show all of their columns, their zip has as many rows as all these columns together. It may be broken where these are whole: a faulty cell that would broadcast over no rows breaks its table, and no zip of columns.
abbrev pub ZipsReach : Type 0
ZipsReach =
    (at : ℕ) (s : Fields) (hs : List Share) → AllByRecursion IsShare hs → AllByRecursion (λ (h : Share). ShowsAll h.from h.columns) hs
    → Reach (length (mild_zip at (all_columns (tables_of hs))).rows) (columns_shown hs)
