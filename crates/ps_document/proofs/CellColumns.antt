-- Columns as lists of cells, and a table's columns.
use Rattle.std.proofs.Common.{◌≡◌, ◌≢◌, ℕ, zero, suc, List, [], ◌∷◌, get_or, drop, refl, ap, sym, ◌∙◌, subst}
use Rattle.std.specs.Prelude.{map, IsTrue}
use Rattle.std.specs.List.{AllByRecursion, AllZip}
use Rattle.serde_json.specs.Data.{Data}
use Rattle.ps_frame.proofs.Lists.{and_both, both}
use Rattle.ps_frame.specs.Frames.{kinds_of}
use Rattle.ps_frame.specs.Lawful.{FitsKinds}
use Rattle.ps_frame.specs.Tables.{Fields, Frame, values_at}
use Rattle.ps_frame.specs.Series.{all_fit}
use Rattle.ps_frame.specs.Values.{fits_kind}
use Rattle.ps_frame.specs.declared.value.DataType.{DataType}
use Rattle.ps_frame.specs.declared.value.Value.{Value}
use Rattle.ps_frame.specs.declared.value.Value.TheVariants as val
use Rattle.ps_document.proofs.Told.{kind-of_word}
use Rattle.ps_document.specs.Columns.{IsColumn}
use Rattle.ps_document.specs.Json.{list, list_of, text}
use Rattle.ps_document.specs.Tables.{FitsItsWidth, IsCell, IsTable, cell_json, column_json, columns_from}
use Rattle.ps_document.specs.Words.{kind_word}
use Rattle.ps_document.specs.declared.tables.NamedColumn.{NamedColumn}

-- what cells that are read are
cells_json : (k : DataType) (vs : List Value) (ds : List Data) → AllZip (IsCell k) vs ds → ds ≡ map cell_json vs
cells_json k [] [] z = refl
cells_json k [] (d ∷ ds) z = absurd z
cells_json k (v ∷ vs) [] z = absurd z
cells_json k (v ∷ vs) (d ∷ ds) z = ap (λ x. x ∷ ds) z.0.json ∙ ap (λ xs. cell_json v ∷ xs) (cells_json k vs ds z.1)

cells_fit : (k : DataType) (vs : List Value) (ds : List Data) → AllZip (IsCell k) vs ds → IsTrue (all_fit k vs)
cells_fit k [] ds z = refl
cells_fit k (v ∷ vs) [] z = absurd z
cells_fit k (v ∷ vs) (d ∷ ds) z = and_both (fits_kind k v) (all_fit k vs) z.0.fits (cells_fit k vs ds z.1)

cells_widths : (k : DataType) (vs : List Value) (ds : List Data) → AllZip (IsCell k) vs ds → AllByRecursion FitsItsWidth vs
cells_widths k [] ds z = tt
cells_widths k (v ∷ vs) [] z = absurd z
cells_widths k (v ∷ vs) (d ∷ ds) z = (z.0.width, cells_widths k vs ds z.1)

-- values that fit are cells
are_cells : (k : DataType) (vs : List Value) → IsTrue (all_fit k vs) → AllByRecursion FitsItsWidth vs → AllZip (IsCell k) vs (map cell_json vs)
are_cells k [] f w = tt
are_cells k (v ∷ vs) f w = let b = both (fits_kind k v) (all_fit k vs) f in (record { json = refl; fits = b.0; width = w.0 }, are_cells k vs b.1 w.1)

-- a column that is read
pub made_column : (d cells : Data) (k : DataType) (ds : List Data) (c : NamedColumn) → d ≡ list (text c.name ∷ text (kind_word k) ∷ cells ∷ []) → cells ≡ list ds → AllZip (IsCell k) c.column.values ds → c.column.kind ≡ k → IsColumn c d
made_column d cells k ds c e f z same =
    let full : d ≡ column_json c.name k c.column.values = e ∙ ap (λ x. list (text c.name ∷ text (kind_word k) ∷ x ∷ [])) (f ∙ ap list (cells_json k c.column.values ds z)) in
    record {
      json = subst (λ l. d ≡ column_json c.name l c.column.values) (sym same) full;
      fits = subst (λ l. IsTrue (all_fit l c.column.values)) (sym same) (cells_fit k c.column.values ds z);
      widths = cells_widths k c.column.values ds z;
    }

-- cells of which no list of the kind is the JSON are those of no column
pub no_column : (d cells : Data) (name : List ℕ) (k : DataType) → d ≡ list (text name ∷ text (kind_word k) ∷ cells ∷ []) → ((vs : List Value) (ds : List Data) → AllZip (IsCell k) vs ds → cells ≢ list ds) → (c : NamedColumn) → IsColumn c d → ⊥
no_column d cells name k e none c is =
    let both : list (text name ∷ text (kind_word k) ∷ cells ∷ []) ≡ column_json c.name c.column.kind c.column.values = sym e ∙ is.json in
    let kinds : text (kind_word k) ≡ text (kind_word c.column.kind) = cc in
    let same : cells ≡ list_of cell_json c.column.values = cc in
    none c.column.values (map cell_json c.column.values) (subst (λ l. AllZip (IsCell l) c.column.values (map cell_json c.column.values)) (sym (kind-of_word k c.column.kind kinds)) (are_cells c.column.kind c.column.values is.fits is.widths)) same

-- the columns of a table from a place on, each with its name
abbrev pub frame_columns : ℕ → Fields → List (List Value) → List NamedColumn
frame_columns i [] rows = []
frame_columns i (f ∷ fs) rows = record { name = f.0; column = record { kind = f.1; values = values_at i rows } } ∷ frame_columns (suc i) fs rows

fits-at : (i : ℕ) (k : DataType) (ks : List DataType) (row : List Value) → FitsKinds (k ∷ ks) (drop i row) → IsTrue (fits_kind k (get_or row i val.Null)) × FitsKinds ks (drop (suc i) row)
fits-at zero k ks [] h = absurd h
fits-at zero k ks (v ∷ vs) h = (h.0, h.1)
fits-at (suc i) k ks [] h = absurd h
fits-at (suc i) k ks (v ∷ vs) h = fits-at i k ks vs h

fits-column : (i : ℕ) (k : DataType) (ks : List DataType) (rows : List (List Value)) → AllByRecursion (λ row. FitsKinds (k ∷ ks) (drop i row)) rows → IsTrue (all_fit k (values_at i rows)) × AllByRecursion (λ row. FitsKinds ks (drop (suc i) row)) rows
fits-column i k ks [] h = (refl, tt)
fits-column i k ks (row ∷ rows) h =
    let here = fits-at i k ks row h.0 in
    let rest = fits-column i k ks rows h.1 in
    (and_both (fits_kind k (get_or row i val.Null)) (all_fit k (values_at i rows)) here.0 rest.0, (here.1, rest.1))

width-at : (i : ℕ) (row : List Value) → AllByRecursion FitsItsWidth row → FitsItsWidth (get_or row i val.Null)
width-at i [] h = tt
width-at zero (v ∷ vs) h = h.0
width-at (suc i) (v ∷ vs) h = width-at i vs h.1

widths-column : (i : ℕ) (rows : List (List Value)) → AllByRecursion (AllByRecursion FitsItsWidth) rows → AllByRecursion FitsItsWidth (values_at i rows)
widths-column i [] h = tt
widths-column i (row ∷ rows) h = (width-at i row h.0, widths-column i rows h.1)

pub frame-zip : (i : ℕ) (fs : Fields) (rows : List (List Value)) → AllByRecursion (λ row. FitsKinds (kinds_of fs) (drop i row)) rows → AllByRecursion (AllByRecursion FitsItsWidth) rows → AllZip IsColumn (frame_columns i fs rows) (columns_from i fs rows)
frame-zip i [] rows f w = tt
frame-zip i (g ∷ fs) rows f w =
    let parts = fits-column i g.1 (kinds_of fs) rows f in
    (record { json = refl; fits = parts.0; widths = widths-column i rows w }, frame-zip (suc i) fs rows parts.1 w)

-- what is the JSON of no columns is that of no table
pub no_columns : (d : Data) → ((cs : List NamedColumn) (ds : List Data) → AllZip IsColumn cs ds → d ≢ list ds) → (f : Frame) → IsTable f d → ⊥
no_columns d none f t = none (frame_columns 0 f.schema f.rows) (columns_from 0 f.schema f.rows) (frame-zip 0 f.schema f.rows t.fits t.widths) t.json
