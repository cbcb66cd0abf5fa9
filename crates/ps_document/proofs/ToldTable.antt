-- The table that a JSON value tells.
use Rattle.std.proofs.Common.{◌≡◌, ℕ, zero, suc, List, [], ◌∷◌, drop, get_or, length, replicate, refl, ap, sym, ◌∙◌}
use Rattle.std.specs.Prelude.{ℤ, map, IsTrue}
use Rattle.std.specs.List.{AllByRecursion, AllZip}
use Rattle.std.proofs.lemmas.List.{length-map, map-id}
use Rattle.serde_json.specs.Data.{Data, null}
use Rattle.ps_frame.proofs.Lists.{both}
use Rattle.ps_frame.specs.Frames.{column_values, frame_of, kinds_of}
use Rattle.ps_frame.specs.Lawful.{FitsKinds}
use Rattle.ps_frame.specs.Tables.{Fields, Frame, beside, rows_of, values_at}
use Rattle.ps_frame.specs.Series.{all_fit}
use Rattle.ps_frame.specs.Values.{fits_kind}
use Rattle.ps_frame.specs.declared.value.DataType.{DataType}
use Rattle.ps_frame.specs.declared.value.DataType.TheVariants as kind
use Rattle.ps_frame.specs.declared.value.Value.{Value}
use Rattle.ps_frame.specs.declared.value.Value.TheVariants as val
use Rattle.ps_document.proofs.CellColumns.{frame-zip, frame_columns}
use Rattle.ps_document.proofs.Lists.{elements_of-items, list_same}
use Rattle.ps_document.proofs.Told.{all-told, item_in, items_in, kind-told, kind_in, number_in, text_in, truth_in, whole_number-told, whole_number_in}
use Rattle.ps_document.specs.Columns.{IsColumn, fields_of, typed_of}
use Rattle.ps_document.specs.Json.{list}
use Rattle.ps_document.specs.Tables.{IsTable, cell_json, columns_from}
use Rattle.ps_document.specs.declared.tables.NamedColumn.{NamedColumn}

-- the value of a kind
abbrev value_in : DataType → Data → Value
value_in kind.Boolean d = val.Boolean (truth_in d)
value_in kind.Int64 d = val.Int64 (whole_number_in d)
value_in kind.IdxSize d = val.IdxSize (number_in d)
value_in kind.String d = val.String (text_in d)

abbrev cell_in : DataType → Data → Value
cell_in k null = val.Null
cell_in k d = value_in k d

abbrev column_in : Data → NamedColumn
column_in d =
    let k = kind_in (item_in 1 d) in
    record { name = text_in (item_in 0 d); column = record { kind = k; values = map (cell_in k) (items_in (item_in 2 d)) } }

abbrev frame_in : List NamedColumn → Frame
frame_in cs = frame_of (fields_of cs) (typed_of cs)

abbrev pub table_in : Data → Frame
table_in d = frame_in (map column_in (items_in d))

cell-told : (k : DataType) (v : Value) → IsTrue (fits_kind k v) → cell_in k (cell_json v) ≡ v
cell-told k val.Null fits = refl
cell-told kind.Boolean (val.Boolean b) fits = refl
cell-told kind.Int64 (val.Int64 z) fits = int z where
  int : (z : ℤ) → cell_in kind.Int64 (cell_json (val.Int64 z)) ≡ val.Int64 z
  int z = ap val.Int64 (whole_number-told z)
cell-told kind.IdxSize (val.IdxSize n) fits = refl
cell-told kind.String (val.String s) fits = refl
cell-told _ _ fits = cc

cells-told : (k : DataType) (vs : List Value) → IsTrue (all_fit k vs) → map (cell_in k) (map cell_json vs) ≡ vs
cells-told k [] fits = refl
cells-told k (v ∷ vs) fits = let b = both (fits_kind k v) (all_fit k vs) fits in λ i. cell-told k v b.0 i ∷ cells-told k vs b.1 i

column-told : (c : NamedColumn) (d : Data) → IsColumn c d → column_in d ≡ c
column-told c d is =
    ap column_in is.json
    ∙ (λ i. record { name = c.name; column = record { kind = kind-told c.column.kind i; values = map (cell_in (kind-told c.column.kind i)) (elements_of-items (map cell_json c.column.values) i) } })
    ∙ (λ i. record { name = c.name; column = record { kind = c.column.kind; values = cells-told c.column.kind c.column.values is.fits i } })

frame-told : (f : Frame) (d : Data) → IsTable f d → map column_in (columns_from 0 f.schema f.rows) ≡ frame_columns 0 f.schema f.rows
frame-told f d is = all-told IsColumn column_in column-told (frame_columns 0 f.schema f.rows) (columns_from 0 f.schema f.rows) (frame-zip 0 f.schema f.rows is.fits is.widths)

-- the columns of what is the JSON of a table are its columns
pub columns-told : (f : Frame) (cs : List NamedColumn) (ds : List Data) → AllZip IsColumn cs ds → IsTable f (list ds) → cs ≡ frame_columns 0 f.schema f.rows
columns-told f cs ds z is = sym (all-told IsColumn column_in column-told cs ds z) ∙ ap (map column_in) (list_same ds (columns_from 0 f.schema f.rows) is.json) ∙ frame-told f (list ds) is

-- a table is told by its columns
pub fields-of_columns : (i : ℕ) (fs : Fields) (rows : List (List Value)) → fields_of (frame_columns i fs rows) ≡ fs
fields-of_columns i [] rows = refl
fields-of_columns i (f ∷ fs) rows = ap (λ gs. f ∷ gs) (fields-of_columns (suc i) fs rows)

no-values : (i : ℕ) (rows : List (List Value)) → AllByRecursion (λ row. FitsKinds [] (drop i row)) rows → replicate (length rows) [] ≡ map (drop i) rows
no-values i [] all = refl
no-values i (row ∷ rows) all = λ j. none (drop i row) all.0 j ∷ no-values i rows all.1 j where
  none : (vs : List Value) → FitsKinds [] vs → [] ≡ vs
  none [] fits = refl
  none (v ∷ vs) fits = absurd fits

value-before : (i : ℕ) (k : DataType) (ks : List DataType) (row : List Value) → FitsKinds (k ∷ ks) (drop i row) → get_or row i val.Null ∷ drop (suc i) row ≡ drop i row
value-before zero k ks [] fits = absurd fits
value-before zero k ks (v ∷ vs) fits = refl
value-before (suc i) k ks [] fits = absurd fits
value-before (suc i) k ks (v ∷ vs) fits = value-before i k ks vs fits

fits-after : (i : ℕ) (k : DataType) (ks : List DataType) (row : List Value) → FitsKinds (k ∷ ks) (drop i row) → FitsKinds ks (drop (suc i) row)
fits-after zero k ks [] fits = absurd fits
fits-after zero k ks (v ∷ vs) fits = fits.1
fits-after (suc i) k ks [] fits = absurd fits
fits-after (suc i) k ks (v ∷ vs) fits = fits-after i k ks vs fits

all-fit_after : (i : ℕ) (k : DataType) (ks : List DataType) (rows : List (List Value)) → AllByRecursion (λ row. FitsKinds (k ∷ ks) (drop i row)) rows → AllByRecursion (λ row. FitsKinds ks (drop (suc i) row)) rows
all-fit_after i k ks [] all = tt
all-fit_after i k ks (row ∷ rows) all = (fits-after i k ks row all.0, all-fit_after i k ks rows all.1)

values-before : (i : ℕ) (k : DataType) (ks : List DataType) (rows : List (List Value)) → AllByRecursion (λ row. FitsKinds (k ∷ ks) (drop i row)) rows → beside (values_at i rows) (map (drop (suc i)) rows) ≡ map (drop i) rows
values-before i k ks [] all = refl
values-before i k ks (row ∷ rows) all = λ j. value-before i k ks row all.0 j ∷ values-before i k ks rows all.1 j

rows-of_columns : (i : ℕ) (fs : Fields) (rows : List (List Value)) → AllByRecursion (λ row. FitsKinds (kinds_of fs) (drop i row)) rows → rows_of (length rows) (column_values (typed_of (frame_columns i fs rows))) ≡ map (drop i) rows
rows-of_columns i [] rows all = no-values i rows all
rows-of_columns i (f ∷ fs) rows all =
    ap (beside (values_at i rows)) (rows-of_columns (suc i) fs rows (all-fit_after i f.1 (kinds_of fs) rows all)) ∙ values-before i f.1 (kinds_of fs) rows all

rows-told : (fs : Fields) (rows : List (List Value)) → AllByRecursion (FitsKinds (kinds_of fs)) rows → (fs ≡ [] → rows ≡ []) → (frame_in (frame_columns 0 fs rows)).rows ≡ rows
rows-told [] rows fits empty = sym (empty refl)
rows-told (f ∷ fs) rows fits empty =
    ap (λ n. rows_of n (column_values (typed_of (frame_columns 0 (f ∷ fs) rows)))) (length-map rows (λ row. get_or row 0 val.Null)) ∙ rows-of_columns 0 (f ∷ fs) rows fits ∙ map-id rows

pub table-told : (f : Frame) (d : Data) → IsTable f d → table_in d ≡ f
table-told f d is =
    ap table_in is.json
    ∙ ap (λ ds. frame_in (map column_in ds)) (elements_of-items (columns_from 0 f.schema f.rows))
    ∙ ap frame_in (frame-told f d is)
    ∙ (λ i. record { schema = fields-of_columns 0 f.schema f.rows i; rows = rows-told f.schema f.rows is.fits is.empty i })

pub tables-told : (tables : List Frame) (ds : List Data) → AllZip IsTable tables ds → map table_in ds ≡ tables
tables-told tables ds are_tables = all-told IsTable table_in table-told tables ds are_tables
