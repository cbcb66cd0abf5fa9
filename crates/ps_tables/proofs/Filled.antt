-- Whole columns side by side, filled with nulls to one height.
use Rattle.std.proofs.Common.{◌≡◌, ◌≢◌, ℕ, zero, suc, ◌+◌, ◌-◌, ◌<◌, ◌≤◌, max, List, [], ◌∷◌, ◌++◌, length, take, get_or, replicate, true, false, cond, refl, sym, ap, ◌∙◌, inl, add-one, append_assoc, length-append, arith}
use Rattle.std.specs.Prelude.{map, not, ◌||◌, fold, take_while}
use Rattle.std.specs.List.{AllByRecursion, list_any}
use Rattle.std.proofs.Math.ListN.{length-replicate}
use Rattle.std.proofs.Math.Seq.{take-suc}
use Rattle.std.proofs.lemmas.List.{append-nil, get_or-map, length-map, map-append}
use Rattle.std.proofs.lemmas.List.Sums.{fold-append, take_while-cons}
use Rattle.std.proofs.lemmas.Simd.{map-map}
use Rattle.ps_frame.specs.Aggregates.{max_rows}
use Rattle.ps_frame.specs.Causes.{Column, value, cell_values, is_empty, is_ended, whole_column}
use Rattle.ps_frame.specs.Frames.{AllOfHeight, HasKinds, IsFrame, column_values, kinds_of}
use Rattle.ps_frame.specs.Functions.{Functions}
use Rattle.ps_frame.specs.Tables.{Fields, Frame, beside, columns_of, rows_of, values_at, whole}
use Rattle.ps_frame.specs.Series.{Series}
use Rattle.ps_frame.specs.Zip.{Extent, aligned, below, cell_in_row, ended_lengths, extents, greatest, is_faulty_row, least_or, row_causes, rows_before_fault, zip_causes, zip_length, zip_rows, zipped}
use Rattle.ps_frame.specs.declared.value.DataType.TheVariants as kind
use Rattle.ps_frame.specs.declared.value.Value.{Value}
use Rattle.ps_frame.specs.declared.value.Value.TheVariants as val
use Rattle.ps_frame.proofs.Rows.{columns_of-frame, values_at-rows_of}
use Rattle.ps_meaning.specs.Cases.{all_columns, schemas_of}
use Rattle.ps_meaning.specs.Nodes.{GivesFrame, wholes}
use Rattle.ps_meaning.specs.Schemas.{joined_schemas}
use Rattle.ps_meaning.specs.Steps.{hconcat}
use Rattle.ps_meaning.proofs.Begins.{map-below}
use Rattle.ps_meaning.proofs.Fits.{all-append}
use Rattle.ps_meaning.proofs.OneInput.{places-all}
use Rattle.ps_tables.specs.Columns.{all_values, filled, filled_to}
use Rattle.ps_tables.proofs.Cuts.{table}
use Rattle.ps_tables.proofs.Projected.{columns_at}

-- The zip of whole columns.
abbrev wholly : List (List Value) → List Column
wholly vss = map whole_column vss

-- the row at a place of columns, and null where one has none
abbrev row_at : List (List Value) → ℕ → List Value
row_at vss i = map (λ vs. get_or vs i val.Null) vss

cell-at : (vs : List Value) (i : ℕ) → get_or (map value vs) i (value val.Null) ≡ value (get_or vs i val.Null)
cell-at [] i = refl
cell-at (v ∷ vs) zero = refl
cell-at (v ∷ vs) (suc i) = cell-at vs i

cells-at : (vss : List (List Value)) (i : ℕ) → map (cell_in_row true i) (wholly vss) ≡ map value (row_at vss i)
cells-at [] i = refl
cells-at (vs ∷ vss) i = λ j. cell-at vs i j ∷ cells-at vss i j

zip-rows : (vss : List (List Value)) (is : List ℕ) → map (λ i. map (cell_in_row true i) (wholly vss)) is ≡ map (map value) (map (row_at vss) is)
zip-rows vss [] = refl
zip-rows vss (i ∷ is) = λ j. cells-at vss i j ∷ zip-rows vss is j

no-causes : (row : List Value) → row_causes (map value row) ≡ []
no-causes [] = refl
no-causes (v ∷ vs) = no-causes vs

values-back : (row : List Value) → cell_values (map value row) ≡ row
values-back [] = refl
values-back (v ∷ vs) = ap (λ ws. v ∷ ws) (values-back vs)

whole-rows : (rows : List (List Value)) → rows_before_fault (map (map value) rows) ≡ rows
whole-rows [] = refl
whole-rows (r ∷ rows) =
    ap (map cell_values) (take_while-cons (λ row. not (is_faulty_row row)) (map value r) (map (map value) rows) ∙ ap (λ cs. cond (not (not (is_empty cs))) (map value r ∷ take_while (λ row. not (is_faulty_row row)) (map (map value) rows)) []) (no-causes r))
    ∙ ap (λ row. row ∷ rows_before_fault (map (map value) rows)) (values-back r)
    ∙ ap (λ more. r ∷ more) (whole-rows rows)

none-faulty : (rows : List (List Value)) → list_any is_faulty_row (map (map value) rows) ≡ false
none-faulty [] = refl
none-faulty (r ∷ rows) = ap (λ cs. not (is_empty cs) || list_any is_faulty_row (map (map value) rows)) (no-causes r) ∙ none-faulty rows

none-ended : (vss : List (List Value)) → list_any is_ended (wholly vss) ≡ false
none-ended [] = refl
none-ended (vs ∷ vss) = none-ended vss

no-lengths : (vss : List (List Value)) → ended_lengths (extents (wholly vss)) ≡ []
no-lengths [] = refl
no-lengths (vs ∷ vss) = no-lengths vss

lengths-are : (vss : List (List Value)) → map (λ (e : Extent). e.len) (extents (wholly vss)) ≡ map (λ (vs : List Value). length vs) vss
lengths-are [] = refl
lengths-are (vs ∷ vss) = λ j. length-map vs value j ∷ lengths-are vss j

abbrev greatest_length : List (List Value) → ℕ
greatest_length vss = fold max 0 (map (λ (vs : List Value). length vs) vss)

zip-length : (vss : List (List Value)) → zip_length true (extents (wholly vss)) ≡ greatest_length vss
zip-length vss = ap (least_or (greatest (map (λ (e : Extent). e.len) (extents (wholly vss))))) (no-lengths vss) ∙ ap (fold max 0) (lengths-are vss)

zipped-rows : (at : ℕ) (vss : List (List Value)) → (zipped true at (wholly vss)).rows ≡ map (row_at vss) (below (greatest_length vss))
zipped-rows at vss =
    ap (λ n. rows_before_fault (zip_rows true n (wholly vss))) (zip-length vss) ∙ ap rows_before_fault (zip-rows vss (below (greatest_length vss))) ∙ whole-rows (map (row_at vss) (below (greatest_length vss)))

zipped-broken : (at : ℕ) (vss : List (List Value)) → (zipped true at (wholly vss)).broken ≡ []
zipped-broken at vss =
    let n = zip_length true (extents (wholly vss)) in
    let faulty : list_any is_faulty_row (aligned true at (wholly vss)).rows ≡ false = ap (list_any is_faulty_row) (zip-rows vss (below n)) ∙ none-faulty (map (row_at vss) (below n)) in
    λ j. cond ((none-ended vss j || false) || faulty j) (zip_causes true at (wholly vss)) []

-- Columns that are filled to one height.
get-null : (n i : ℕ) → get_or (replicate n val.Null) i val.Null ≡ val.Null
get-null zero i = refl
get-null (suc n) zero = refl
get-null (suc n) (suc i) = get-null n i

get-filled : (vs : List Value) (n i : ℕ) → get_or (vs ++ replicate n val.Null) i val.Null ≡ get_or vs i val.Null
get-filled [] n i = get-null n i
get-filled (v ∷ vs) n zero = refl
get-filled (v ∷ vs) n (suc i) = get-filled vs n i

length-filled : (h : ℕ) (vs : List Value) → length vs ≤ h → length (filled h vs) ≡ h
length-filled h vs few = let e = length-append vs (replicate (h - length vs) val.Null) in let r = length-replicate (h - length vs) val.Null in omega arith

filled-are : (h : ℕ) (vs : List Value) → length vs ≤ h → filled h vs ≡ map (λ i. get_or vs i val.Null) (below h)
filled-are h vs few =
    sym (places-all (filled h vs) val.Null) ∙ ap (λ n. map (λ i. get_or (filled h vs) i val.Null) (below n)) (length-filled h vs few)
    ∙ map-below h (λ i. get_or (filled h vs) i val.Null) (λ i. get_or vs i val.Null) (λ i p. get-filled vs (h - length vs) i)

beside-map : {A : Type 0} (f : A → Value) (g : A → List Value) (is : List A) → beside (map f is) (map g is) ≡ map (λ i. f i ∷ g i) is
beside-map f g [] = refl
beside-map f g (i ∷ is) = ap (λ rows. (f i ∷ g i) ∷ rows) (beside-map f g is)

length-below : (n : ℕ) → length (below n) ≡ n
length-below zero = refl
length-below (suc n) = let e = length-append (below n) (n ∷ []) in let r = length-below n in omega arith

same-each : {A B : Type 0} (x : B) (is : List A) → replicate (length is) x ≡ map (λ i. x) is
same-each x [] = refl
same-each x (i ∷ is) = ap (λ xs. x ∷ xs) (same-each x is)

rows-filled : (h : ℕ) (vss : List (List Value)) → AllByRecursion (λ (vs : List Value). length vs ≤ h) vss → rows_of h (map (filled h) vss) ≡ map (row_at vss) (below h)
rows-filled h [] few = let none : List Value = [] in ap (λ n. replicate n none) (sym (length-below h)) ∙ same-each none (below h)
rows-filled h (vs ∷ vss) few =
    (λ j. beside (filled-are h vs few.0 j) (rows-filled h vss few.1 j)) ∙ beside-map (λ i. get_or vs i val.Null) (row_at vss) (below h)

filled-heights : (h : ℕ) (vss : List (List Value)) (cs : List Series) → column_values cs ≡ map (filled h) vss → AllByRecursion (λ (vs : List Value). length vs ≤ h) vss → AllOfHeight h cs
filled-heights h vss [] e few = tt
filled-heights h [] (c ∷ cs) e few = cc
filled-heights h (vs ∷ vss) (c ∷ cs) e few =
    let first : c.values ≡ filled h vs = cc in
    let rest : column_values cs ≡ map (filled h) vss = cc in
    (ap length first ∙ length-filled h vs few.0, filled-heights h vss cs rest few.1)

-- The columns of tables.
whole-columns : (f : Frame) → columns_of (whole f) ≡ wholly (columns_at f.rows (below (length f.schema)))
whole-columns f = sym (map-map whole_column (λ i. values_at i f.rows) (below (length f.schema)))

all-whole : (fs : List Frame) → all_columns (wholes fs) ≡ wholly (all_values fs)
all-whole [] = refl
all-whole (f ∷ fs) = (λ j. whole-columns f j ++ all-whole fs j) ∙ sym (map-append whole_column (columns_at f.rows (below (length f.schema))) (all_values fs))

-- the greatest height
abbrev height_among : ℕ → List Frame → ℕ
height_among a fs = fold max a (map (λ (f : Frame). length f.rows) fs)

at-least : (a : ℕ) (fs : List Frame) → a ≤ height_among a fs
at-least a [] = omega arith
at-least a (f ∷ fs) = let h = at-least (max a (length f.rows)) fs in omega arith

each-low : (h a : ℕ) (fs : List Frame) → height_among a fs ≤ h → AllByRecursion (λ (f : Frame). length f.rows ≤ h) fs
each-low h a [] most = tt
each-low h a (f ∷ fs) most = (let g = at-least (max a (length f.rows)) fs in omega arith, each-low h (max a (length f.rows)) fs most)

columns-low : (h : ℕ) (rows : List (List Value)) (ks : List ℕ) → length rows ≤ h → AllByRecursion (λ (vs : List Value). length vs ≤ h) (columns_at rows ks)
columns-low h rows [] few = tt
columns-low h rows (k ∷ ks) few = (let e = length-map rows (λ row. get_or row k val.Null) in omega arith, columns-low h rows ks few)

values-low : (h : ℕ) (fs : List Frame) → AllByRecursion (λ (f : Frame). length f.rows ≤ h) fs → AllByRecursion (λ (vs : List Value). length vs ≤ h) (all_values fs)
values-low h [] low = tt
values-low h (f ∷ fs) low = all-append (λ (vs : List Value). length vs ≤ h) (columns_at f.rows (below (length f.schema))) (all_values fs) (columns-low h f.rows (below (length f.schema)) low.0) (values-low h fs low.1)

abbrev lengths_at : List (List Value) → List ℕ → List ℕ
lengths_at rows ks = map (λ (vs : List Value). length vs) (columns_at rows ks)

no-higher : (a : ℕ) (rows : List (List Value)) (ks : List ℕ) → length rows ≤ a → fold max a (lengths_at rows ks) ≡ a
no-higher a rows [] few = refl
no-higher a rows (k ∷ ks) few =
    let e = length-map rows (λ row. get_or row k val.Null) in
    let same : max a (length (values_at k rows)) ≡ a = omega arith in
    ap (λ b. fold max b (lengths_at rows ks)) same ∙ no-higher a rows ks few

some-columns : (a : ℕ) (rows : List (List Value)) (ks : List ℕ) → ks ≢ [] → fold max a (lengths_at rows ks) ≡ max a (length rows)
some-columns a rows [] some = absurd (some refl)
some-columns a rows (k ∷ ks) some =
    let e = length-map rows (λ row. get_or row k val.Null) in
    let same : max a (length (values_at k rows)) ≡ max a (length rows) = ap (max a) e in
    ap (λ b. fold max b (lengths_at rows ks)) same ∙ no-higher (max a (length rows)) rows ks (omega arith)

below-some : (s : Fields) → s ≢ [] → below (length s) ≢ []
below-some [] some e = some refl
below-some (f ∷ s) some e = by (below (length s)) e
  where
    by : (ns : List ℕ) → ns ++ length s ∷ [] ≡ [] → ⊥
    by [] e = cc
    by (n ∷ ns) e = cc

heights-same : (a : ℕ) (fs : List Frame) → AllByRecursion (λ (f : Frame). f.schema ≢ []) fs → fold max a (map (λ (vs : List Value). length vs) (all_values fs)) ≡ height_among a fs
heights-same a [] some = refl
heights-same a (f ∷ fs) some =
    let ks = below (length f.schema) in
    ap (fold max a) (map-append (λ (vs : List Value). length vs) (columns_at f.rows ks) (all_values fs)) ∙ fold-append max a (lengths_at f.rows ks) (map (λ (vs : List Value). length vs) (all_values fs))
    ∙ ap (λ b. fold max b (map (λ (vs : List Value). length vs) (all_values fs))) (some-columns a f.rows ks (below-some f.schema some.0)) ∙ heights-same (max a (length f.rows)) fs some.1

-- The columns of one more table.
all_values-append : (fs gs : List Frame) → all_values (fs ++ gs) ≡ all_values fs ++ all_values gs
all_values-append [] gs = refl
all_values-append (f ∷ fs) gs =
    ap (λ vss. columns_at f.rows (below (length f.schema)) ++ vss) (all_values-append fs gs) ∙ sym (append_assoc (columns_at f.rows (below (length f.schema))) (all_values fs) (all_values gs))

joined-append : (ss : List Fields) (s : Fields) → joined_schemas (ss ++ s ∷ []) ≡ joined_schemas ss ++ s
joined-append [] s = append-nil s
joined-append (r ∷ ss) s = ap (λ fs. r ++ fs) (joined-append ss s) ∙ sym (append_assoc r (joined_schemas ss) s)

filled-kinds : (h : ℕ) (cs : List Series) → map (λ (c : Series). c.kind) (map (filled_to h) cs) ≡ map (λ (c : Series). c.kind) cs
filled-kinds h [] = refl
filled-kinds h (c ∷ cs) = ap (λ ks. c.kind ∷ ks) (filled-kinds h cs)

filled-values : (h : ℕ) (cs : List Series) → column_values (map (filled_to h) cs) ≡ map (filled h) (column_values cs)
filled-values h [] = refl
filled-values h (c ∷ cs) = ap (λ vss. filled h c.values ∷ vss) (filled-values h cs)

columns-are : (t : Frame) (cs : List Series) → IsFrame t.schema cs (length t.rows) → t.rows ≡ rows_of (length t.rows) (column_values cs) → column_values cs ≡ columns_at t.rows (below (length t.schema))
columns-are t cs fields rows =
    let d : Series = record { kind = kind.Boolean; values = [] } in
    let width : length (column_values cs) ≡ length t.schema = length-map cs (λ (c : Series). c.values) ∙ columns_of-frame fields in
    sym (places-all (column_values cs) []) ∙ ap (λ n. map (λ k. get_or (column_values cs) k []) (below n)) width
    ∙ map-below (length t.schema) (λ k. get_or (column_values cs) k []) (λ k. values_at k t.rows) (λ k h.
    let inside : k < length cs = (let e = columns_of-frame fields in omega arith) in
    get_or-map (λ (c : Series). c.values) cs k d [] inside ∙ sym (values_at-rows_of (length t.rows) k cs d fields.heights inside) ∙ ap (values_at k) (sym rows))

module _ (h : ℕ) (fs : List Frame) (i : ℕ) (t : Frame) (cs old new : List Series) (p : i < length fs) (is : t ≡ get_or fs i t) (fields : IsFrame t.schema cs (length t.rows)) (rows : t.rows ≡ rows_of (length t.rows) (column_values cs)) (grown : new ≡ old ++ map (filled_to h) cs) where
  more : take (suc i) fs ≡ take i fs ++ t ∷ []
  more = take-suc fs i t p ∙ ap (λ g. take i fs ++ g ∷ []) (sym is)

  pub kinds-beside : HasKinds (joined_schemas (map (λ (f : Frame). f.schema) (take i fs))) old → HasKinds (joined_schemas (map (λ (f : Frame). f.schema) (take (i + 1) fs))) new
  kinds-beside before =
      let ss = map (λ (f : Frame). f.schema) (take i fs) in
      let schema : joined_schemas (map (λ (f : Frame). f.schema) (take (suc i) fs)) ≡ joined_schemas ss ++ t.schema =
      ap (λ gs. joined_schemas (map (λ (f : Frame). f.schema) gs)) more ∙ ap joined_schemas (map-append (λ (f : Frame). f.schema) (take i fs) (t ∷ [])) ∙ joined-append ss t.schema in
      rw add-one (ap (map (λ (c : Series). c.kind)) grown ∙ map-append (λ (c : Series). c.kind) old (map (filled_to h) cs) ∙ (λ j. before j ++ (filled-kinds h cs ∙ fields.kinds) j)
      ∙ sym (map-append (λ field. field.1) (joined_schemas ss) t.schema) ∙ ap kinds_of (sym schema))

  pub values-beside : column_values old ≡ map (filled h) (all_values (take i fs)) → column_values new ≡ map (filled h) (all_values (take (i + 1) fs))
  values-beside before =
      let vss = columns_at t.rows (below (length t.schema)) in
      let all : all_values (take (suc i) fs) ≡ all_values (take i fs) ++ vss = ap all_values more ∙ all_values-append (take i fs) (t ∷ []) ∙ ap (λ ws. all_values (take i fs) ++ ws) (append-nil vss) in
      rw add-one (ap column_values grown ∙ map-append (λ (c : Series). c.values) old (map (filled_to h) cs) ∙ (λ j. before j ++ (filled-values h cs ∙ ap (map (filled h)) (columns-are t cs fields rows)) j)
      ∙ sym (map-append (filled h) (all_values (take i fs)) vss) ∙ ap (map (filled h)) (sym all))

-- The tables side by side.
schemas-are : (fs : List Frame) → schemas_of (wholes fs) ≡ map (λ (f : Frame). f.schema) fs
schemas-are [] = refl
schemas-are (f ∷ fs) = ap (λ ss. f.schema ∷ ss) (schemas-are fs)

module _ (fs : List Frame) (s : Fields) (cs : List Series) (h : ℕ) (columns : AllByRecursion (λ (f : Frame). f.schema ≢ []) fs) (joined : s ≡ joined_schemas (map (λ (f : Frame). f.schema) fs)) (greatest : h ≡ height_among 0 fs) (values : column_values cs ≡ map (filled h) (all_values fs)) where
  low : AllByRecursion (λ (vs : List Value). length vs ≤ h) (all_values fs)
  low = values-low h fs (each-low h 0 fs (omega arith))

  pub beside-frame : h ≤ max_rows → HasKinds (joined_schemas (map (λ (f : Frame). f.schema) fs)) cs → IsFrame s cs h
  beside-frame few kinds = record { kinds = kinds ∙ ap kinds_of (sym joined); heights = filled-heights h (all_values fs) cs values low; small = few }

  pub beside-gives : (F : Functions) (at : ℕ) (f : Frame) → f.schema ≡ s → f.rows ≡ rows_of h (column_values cs) → GivesFrame F at hconcat fs f
  beside-gives F at f schema made =
      let rows : f.rows ≡ map (row_at (all_values fs)) (below h) = made ∙ ap (rows_of h) values ∙ rows-filled h (all_values fs) low in
      let height : greatest_length (all_values fs) ≡ h = heights-same 0 fs columns ∙ sym greatest in
      let zip : (zipped true at (all_columns (wholes fs))).rows ≡ map (row_at (all_values fs)) (below h) =
      ap (λ cs. (zipped true at cs).rows) (all-whole fs) ∙ zipped-rows at (all_values fs) ∙ ap (λ n. map (row_at (all_values fs)) (below n)) height in
      let broken : (zipped true at (all_columns (wholes fs))).broken ≡ [] = ap (λ cs. (zipped true at cs).broken) (all-whole fs) ∙ zipped-broken at (all_values fs) in
      (whole f, inl (λ i. table ((schema ∙ joined ∙ ap joined_schemas (sym (schemas-are fs))) i) ((rows ∙ sym zip) i) (sym broken i)), refl)
