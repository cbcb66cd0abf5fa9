-- Tables as columns with names, and back.
use Rattle.std.proofs.Common.{◌≡◌, ℕ, zero, suc, ◌+◌, ◌<◌, List, [], ◌∷◌, ◌++◌, length, get_or, replicate, Bool, true, false, refl, ap, sym, ◌∙◌, arith, subst}
use Rattle.std.specs.Prelude.{map, IsTrue, IsFalse, not, ◌&&◌, ◌||◌}
use Rattle.std.specs.List.{AllByRecursion, AllZip}
use Rattle.std.proofs.lemmas.List.{length-map}
use Rattle.std.specs.Cmp.{nat_eq_equiv}
use Rattle.std.specs.Cmp.Lexicographic.{lists_equiv}
use Rattle.std.specs.Str.{bytes_eq}
use Rattle.serde_json.specs.Data.{Data}
use Rattle.ps_frame.proofs.Lists.{both}
use Rattle.ps_frame.proofs.Rows.{values_at-rows_of}
use Rattle.ps_frame.specs.Frames.{AllOfHeight, HasOneHeight, IsFrame, column_values, frame_of, has_distinct_names, has_name, height_of, kinds_of}
use Rattle.ps_frame.specs.Lawful.{FitsKinds}
use Rattle.ps_frame.specs.Tables.{Fields, Frame, beside, rows_of, values_at}
use Rattle.ps_frame.specs.Series.{Series, all_fit}
use Rattle.ps_frame.specs.Values.{fits_kind}
use Rattle.ps_frame.specs.declared.value.DataType.{DataType}
use Rattle.ps_frame.specs.declared.value.Value.{Value}
use Rattle.ps_frame.specs.declared.value.Value.TheVariants as val
use Rattle.ps_document.proofs.CellColumns.{frame_columns}
use Rattle.ps_document.proofs.ToldTable.{columns-told, fields-of_columns}
use Rattle.ps_document.specs.Columns.{IsColumn, field_of, fields_of, named_column_json, typed_of}
use Rattle.ps_document.specs.Json.{list}
use Rattle.ps_document.specs.Tables.{FitsItsWidth, IsTable, column_json, columns_from}
use Rattle.ps_document.specs.declared.tables.NamedColumn.{NamedColumn}

-- the JSON of columns that are read is the JSON of the columns
pub columns_json : (cs : List NamedColumn) (ds : List Data) → AllZip IsColumn cs ds → ds ≡ map named_column_json cs
columns_json [] [] z = refl
columns_json [] (d ∷ ds) z = absurd z
columns_json (c ∷ cs) [] z = absurd z
columns_json (c ∷ cs) (d ∷ ds) z = ap (λ x. x ∷ ds) z.0.json ∙ ap (λ xs. named_column_json c ∷ xs) (columns_json cs ds z.1)

-- the columns of rows whose values at each place are those of the column there
columns_from-is : (i : ℕ) (cs : List NamedColumn) (rows : List (List Value)) → ((k : ℕ) (d : NamedColumn) → k < length cs → values_at (i + k) rows ≡ (get_or cs k d).column.values)
    → columns_from i (fields_of cs) rows ≡ map named_column_json cs
columns_from-is i [] rows at = refl
columns_from-is i (c ∷ cs) rows at =
    let here : values_at i rows ≡ c.column.values = let e : i + 0 ≡ i = omega arith in subst (λ n. values_at n rows ≡ c.column.values) e (at 0 c (omega arith)) in
    let rest = columns_from-is (suc i) cs rows (λ k d l. let e : i + suc k ≡ suc i + k = omega arith in subst (λ n. values_at n rows ≡ (get_or cs k d).column.values) e (at (suc k) d (omega arith))) in
    ap (λ vs. column_json c.name c.column.kind vs ∷ columns_from (suc i) (fields_of cs) rows) here ∙ ap (λ ds. named_column_json c ∷ ds) rest

get_or-typed : (cs : List NamedColumn) (k : ℕ) (d : NamedColumn) → get_or (typed_of cs) k d.column ≡ (get_or cs k d).column
get_or-typed [] k d = refl
get_or-typed (c ∷ cs) zero d = refl
get_or-typed (c ∷ cs) (suc k) d = get_or-typed cs k d

pub columns_of-rows : (cs : List NamedColumn) (h : ℕ) → AllOfHeight h (typed_of cs) → columns_from 0 (fields_of cs) (rows_of h (column_values (typed_of cs))) ≡ map named_column_json cs
columns_of-rows cs h a = columns_from-is 0 cs (rows_of h (column_values (typed_of cs))) (λ k d l.
    let e : length (typed_of cs) ≡ length cs = length-map cs (λ (c : NamedColumn). c.column) in
    let z : 0 + k ≡ k = omega arith in
    rw z (values_at-rows_of h k (typed_of cs) d.column a (omega arith) ∙ ap (λ (t : Series). t.values) (get_or-typed cs k d)))

-- values of a kind in front of rows that fit make rows that fit
fits-beside : (k : DataType) (vs : List Value) (ks : List DataType) (rows : List (List Value)) → IsTrue (all_fit k vs) → AllByRecursion (FitsKinds ks) rows → AllByRecursion (FitsKinds (k ∷ ks)) (beside vs rows)
fits-beside k [] ks rows f r = tt
fits-beside k (v ∷ vs) ks [] f r = tt
fits-beside k (v ∷ vs) ks (row ∷ rows) f r = let b = both (fits_kind k v) (all_fit k vs) f in ((b.0, r.0), fits-beside k vs ks rows b.1 r.1)

widths-beside : (vs : List Value) (rows : List (List Value)) → AllByRecursion FitsItsWidth vs → AllByRecursion (AllByRecursion FitsItsWidth) rows → AllByRecursion (AllByRecursion FitsItsWidth) (beside vs rows)
widths-beside [] rows f r = tt
widths-beside (v ∷ vs) [] f r = tt
widths-beside (v ∷ vs) (row ∷ rows) f r = ((f.0, r.0), widths-beside vs rows f.1 r.1)

none-fit : (h : ℕ) → AllByRecursion (FitsKinds []) (replicate h [])
none-fit zero = tt
none-fit (suc h) = (tt, none-fit h)

no-widths : (h : ℕ) → AllByRecursion (AllByRecursion FitsItsWidth) (replicate h [])
no-widths zero = tt
no-widths (suc h) = (tt, no-widths h)

pub rows-fit : (h : ℕ) (cs : List NamedColumn) (ds : List Data) → AllZip IsColumn cs ds → AllByRecursion (FitsKinds (kinds_of (fields_of cs))) (rows_of h (column_values (typed_of cs)))
rows-fit h [] ds z = none-fit h
rows-fit h (c ∷ cs) [] z = absurd z
rows-fit h (c ∷ cs) (d ∷ ds) z = fits-beside c.column.kind c.column.values (kinds_of (fields_of cs)) (rows_of h (column_values (typed_of cs))) z.0.fits (rows-fit h cs ds z.1)

pub rows-widths : (h : ℕ) (cs : List NamedColumn) (ds : List Data) → AllZip IsColumn cs ds → AllByRecursion (AllByRecursion FitsItsWidth) (rows_of h (column_values (typed_of cs)))
rows-widths h [] ds z = no-widths h
rows-widths h (c ∷ cs) [] z = absurd z
rows-widths h (c ∷ cs) (d ∷ ds) z = widths-beside c.column.values (rows_of h (column_values (typed_of cs))) z.0.widths (rows-widths h cs ds z.1)

-- columns of one height whose names differ make a table
pub is_table : (cs : List NamedColumn) (ds : List Data) → AllZip IsColumn cs ds → IsTrue (has_distinct_names (fields_of cs)) → AllOfHeight (height_of (typed_of cs)) (typed_of cs) → IsTable (frame_of (fields_of cs) (typed_of cs)) (list ds)
is_table cs ds z names height = record {
  json = ap list (columns_json cs ds z ∙ sym (columns_of-rows cs (height_of (typed_of cs)) height));
  fits = rows-fit (height_of (typed_of cs)) cs ds z;
  widths = rows-widths (height_of (typed_of cs)) cs ds z;
  names = names;
  empty = no_columns cs;
} where
  no_columns : (cs : List NamedColumn) → fields_of cs ≡ [] → rows_of (height_of (typed_of cs)) (column_values (typed_of cs)) ≡ []
  no_columns [] e = refl
  no_columns (c ∷ cs) e = cc

-- the table that was made of columns
pub made_table : (cs : List NamedColumn) (ds : List Data) (f : Frame) (schema : Fields) (columns : List Series) → AllZip IsColumn cs ds → IsTrue (has_distinct_names (fields_of cs)) → schema ≡ fields_of cs → columns ≡ typed_of cs → f ≡ frame_of schema columns
    → IsFrame schema columns (height_of columns) → IsTable f (list ds)
made_table cs ds f schema columns z names s t made frame =
    let height = subst (λ ts. AllOfHeight (height_of ts) ts) t frame.heights in
    let is : f ≡ frame_of (fields_of cs) (typed_of cs) = made ∙ ap (λ fs. frame_of fs columns) s ∙ ap (frame_of (fields_of cs)) t in
    subst (λ g. IsTable g (list ds)) (sym is) (is_table cs ds z names height)

no-such : {A : Type 0} → true ≡ false → A
no-such e = cc

-- the columns of what is the JSON of a table have its fields and its height
table-fields : (f : Frame) (cs : List NamedColumn) (ds : List Data) → AllZip IsColumn cs ds → IsTable f (list ds) → fields_of cs ≡ f.schema
table-fields f cs ds z t = ap fields_of (columns-told f cs ds z t) ∙ fields-of_columns 0 f.schema f.rows

heights-of_columns : (i : ℕ) (fs : Fields) (rows : List (List Value)) → AllOfHeight (length rows) (typed_of (frame_columns i fs rows))
heights-of_columns i [] rows = tt
heights-of_columns i (f ∷ fs) rows = (length-map rows (λ row. get_or row i val.Null), heights-of_columns (suc i) fs rows)

pub table-names : (f : Frame) (cs : List NamedColumn) (ds : List Data) → AllZip IsColumn cs ds → IsTable f (list ds) → IsTrue (has_distinct_names (fields_of cs))
table-names f cs ds z t = rw (table-fields f cs ds z t) t.names

one-height : (cs : List Series) (h : ℕ) → AllOfHeight h cs → AllOfHeight (height_of cs) cs
one-height [] h a = tt
one-height (c ∷ cs) h a = (refl, subst (λ n. AllOfHeight n cs) (sym a.0) a.1)

pub table-heights : (f : Frame) (cs : List NamedColumn) (ds : List Data) (schema : Fields) (columns : List Series) → AllZip IsColumn cs ds → IsTable f (list ds) → schema ≡ fields_of cs → columns ≡ typed_of cs → HasOneHeight schema columns
table-heights f cs ds schema columns z t se ce =
    let heights = subst (λ bs. AllOfHeight (length f.rows) (typed_of bs)) (sym (columns-told f cs ds z t)) (heights-of_columns 0 f.schema f.rows) in
    rw (se, ce) (length-map cs (λ (c : NamedColumn). c.column) ∙ sym (length-map cs field_of), one-height (typed_of cs) (length f.rows) heights)

-- names that don't differ are those of no table
pub no-table : (f : Frame) (cs : List NamedColumn) (ds : List Data) → IsFalse (has_distinct_names (fields_of cs)) → AllZip IsColumn cs ds → IsTable f (list ds) → ⊥
no-table f cs ds twice z t = let names = table-names f cs ds z t in no-such (sym names ∙ twice)

or-last : (a b : Bool) → b ≡ true → (a || b) ≡ true
or-last true b e = refl
or-last false b e = e

or-first : (a b : Bool) → a ≡ true → (a || b) ≡ true
or-first true b e = refl
or-first false b e = cc

or-false_first : (a b : Bool) → a ≡ false → (a || b) ≡ true → b ≡ true
or-false_first true b e f = cc
or-false_first false b e f = f

and-not : (a b : Bool) → a ≡ true → (not a && b) ≡ false
and-not true b e = refl
and-not false b e = cc

and-last : (a b : Bool) → b ≡ false → (a && b) ≡ false
and-last true b e = e
and-last false b e = refl

has-later : (name : List ℕ) (fs : Fields) (f : List ℕ × DataType) (gs : Fields) → bytes_eq name f.0 ≡ true → has_name name (fs ++ f ∷ gs) ≡ true
has-later name [] f gs e = or-first (bytes_eq name f.0) (has_name name gs) e
has-later name (x ∷ fs) f gs e = or-last (bytes_eq name x.0) (has_name name (fs ++ f ∷ gs)) (has-later name fs f gs e)

-- a name that stands already makes names that don't differ
pub not-distinct : (fs : Fields) (f : List ℕ × DataType) (gs : Fields) → has_name f.0 fs ≡ true → has_distinct_names (fs ++ f ∷ gs) ≡ false
not-distinct [] f gs e = cc
not-distinct (x ∷ fs) f gs e = by-first (bytes_eq f.0 x.0) refl (not-distinct fs f gs) where
  by-first : (b : Bool) → bytes_eq f.0 x.0 ≡ b → (has_name f.0 fs ≡ true → has_distinct_names (fs ++ f ∷ gs) ≡ false) → has_distinct_names ((x ∷ fs) ++ f ∷ gs) ≡ false
  by-first true t rest = and-not (has_name x.0 (fs ++ f ∷ gs)) (has_distinct_names (fs ++ f ∷ gs)) (has-later x.0 fs f gs ((lists_equiv nat_eq_equiv).symm x.0 f.0 ∙ t))
  by-first false t rest = and-last (not (has_name x.0 (fs ++ f ∷ gs))) (has_distinct_names (fs ++ f ∷ gs)) (rest (or-false_first (bytes_eq f.0 x.0) (has_name f.0 fs) t e))

pub fields-more : (cs : List NamedColumn) (c : NamedColumn) (ds : List NamedColumn) → fields_of (cs ++ c ∷ ds) ≡ fields_of cs ++ field_of c ∷ fields_of ds
fields-more [] c ds = refl
fields-more (x ∷ cs) c ds = ap (λ fs. field_of x ∷ fs) (fields-more cs c ds)

pub typed-more : (cs : List NamedColumn) (c : NamedColumn) → typed_of (cs ++ c ∷ []) ≡ typed_of cs ++ c.column ∷ []
typed-more [] c = refl
typed-more (x ∷ cs) c = ap (λ ts. x.column ∷ ts) (typed-more cs c)
