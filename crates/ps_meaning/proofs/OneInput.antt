-- The zip with null extension of one table is that table.
use Rattle.std.proofs.Common.{◌≡◌, ◌≢◌, ℕ, zero, suc, ◌<◌, ◌≤◌, min, max, List, [], ◌∷◌, ◌++◌, length, get_or, take, refl, sym, ap, subst, ◌∙◌, inl, inr, arith}
use Rattle.std.proofs.Math.Seq.{take-length, take-suc}
use Rattle.std.proofs.lemmas.List.{append-nil, get_or-map, length-map, map-append}
use Rattle.std.proofs.lemmas.List.Elements.{Contains-append_cases, Contains-append_left}
use Rattle.std.proofs.lemmas.List.Sums.{take_while-cons}
use Rattle.std.proofs.lemmas.Simd.{map-map}
use Rattle.std.specs.Prelude.{◌⊎◌, Bool, true, false, cond, not, ◌||◌, Contains, map, filter, flat_map, take_while}
use Rattle.std.specs.List.{AllByRecursion, fold, list_any}
use Rattle.ps_frame.specs.Causes.{Cause, Column, value, cell_causes, cell_values, column_causes, is_empty, is_ended}
use Rattle.ps_frame.specs.Tables.{Fields, Table, column_at, columns_of, values_at}
use Rattle.ps_frame.specs.Zip.{Extent, aligned, below, cell_in_row, ended_lengths, ends_early, extent_of, extents, greatest, is_faulty_row, least_or, row_causes, rows_before_fault, zip_causes, zip_length, unseen_causes, zip_rows, zipped}
use Rattle.ps_frame.specs.Frames.{kinds_of}
use Rattle.ps_frame.specs.declared.value.DataType.{DataType}
use Rattle.ps_frame.specs.declared.value.Value.{Value}
use Rattle.ps_frame.specs.declared.value.Value.TheVariants as val
use Rattle.ps_meaning.specs.Laws.{FitsKinds, FitsRow, FitsTable, SameCauses}
use Rattle.ps_meaning.proofs.Begins.{map-below, or-left}

-- the items of a list, by their places
places-take : {A : Type 0} (xs : List A) (d : A) (n : ℕ) → n ≤ length xs → map (λ k. get_or xs k d) (below n) ≡ take n xs
places-take xs d zero h = refl
places-take xs d (suc n) h = map-append (λ k. get_or xs k d) (below n) (n ∷ []) ∙ ap (λ ys. ys ++ get_or xs n d ∷ []) (places-take xs d n (omega arith)) ∙ sym (take-suc xs n d h)

pub places-all : {A : Type 0} (xs : List A) (d : A) → map (λ k. get_or xs k d) (below (length xs)) ≡ xs
places-all xs d = places-take xs d (length xs) (omega arith) ∙ take-length xs

kinds-length : (ks : List DataType) (row : List Value) → FitsKinds ks row → length row ≡ length ks
kinds-length [] [] f = refl
kinds-length [] (v ∷ vs) f = absurd f
kinds-length (k ∷ ks) [] f = absurd f
kinds-length (k ∷ ks) (v ∷ vs) f = ap suc (kinds-length ks vs f.1)

pub fits-length : (s : Fields) (row : List Value) → FitsRow s row → length row ≡ length s
fits-length s row f = kinds-length (kinds_of s) row f ∙ length-map s (λ field. field.1)

-- rows of values, none of which is faulty
no-causes : (row : List Value) → row_causes (map value row) ≡ []
no-causes [] = refl
no-causes (v ∷ vs) = no-causes vs

values-back : (row : List Value) → cell_values (map value row) ≡ row
values-back [] = refl
values-back (v ∷ vs) = ap (λ ws. v ∷ ws) (values-back vs)

whole-rows : (rows : List (List Value)) → rows_before_fault (map (map value) rows) ≡ rows
whole-rows [] = refl
whole-rows (r ∷ rows) =
    ap (map cell_values) (take_while-cons (λ row. not (is_faulty_row row)) (map value r) (map (map value) rows) ∙ ap (λ cs. cond (not (not (is_empty cs))) (map value r ∷ take_while (λ row. not (is_faulty_row row)) (map (map value) rows)) []) (no-causes r))
    ∙ ap (λ row. row ∷ rows_before_fault (map (map value) rows)) (values-back r)
    ∙ ap (λ more. r ∷ more) (whole-rows rows)

none-faulty : (rows : List (List Value)) → list_any is_faulty_row (map (map value) rows) ≡ false
none-faulty [] = refl
none-faulty (r ∷ rows) = ap (λ cs. not (is_empty cs) || list_any is_faulty_row (map (map value) rows)) (no-causes r) ∙ none-faulty rows

-- columns of one extent
fold-max_same : (n : ℕ) (ns : List ℕ) → AllByRecursion (λ m. m ≡ n) ns → fold max n ns ≡ n
fold-max_same n [] all = refl
fold-max_same n (m ∷ ms) all = let e : max n m ≡ n = (let q = all.0 in omega arith) in ap (λ k. fold max k ms) e ∙ fold-max_same n ms all.1

fold-min_same : (n : ℕ) (ns : List ℕ) → AllByRecursion (λ m. m ≡ n) ns → fold min n ns ≡ n
fold-min_same n [] all = refl
fold-min_same n (m ∷ ms) all = let e : min n m ≡ n = (let q = all.0 in omega arith) in ap (λ k. fold min k ms) e ∙ fold-min_same n ms all.1

module _ (t : Table) where
  n : ℕ
  n = length t.rows

  extent-length : (k : ℕ) → (extent_of (column_at k t)).len ≡ length t.rows
  extent-length k = length-map (values_at k t.rows) value ∙ length-map t.rows (λ row. get_or row k val.Null)

  abbrev columns : List ℕ → List Column
  columns ks = map (λ k. column_at k t) ks

  all-lengths : (ks : List ℕ) → AllByRecursion (λ m. m ≡ length t.rows) (map (λ (e : Extent). e.len) (extents (columns ks)))
  all-lengths [] = tt
  all-lengths (k ∷ ks) = (extent-length k, all-lengths ks)

  ended-all : (ks : List ℕ) (b : Bool) → not (is_empty t.broken) ≡ b → ended_lengths (extents (columns ks)) ≡ cond b (map (λ (e : Extent). e.len) (extents (columns ks))) []
  ended-all [] true q = refl
  ended-all [] false q = refl
  ended-all (k ∷ ks) true q =
      ap (λ b. map (λ (e : Extent). e.len) (cond b (extent_of (column_at k t) ∷ filter (λ e. e.ended) (extents (columns ks))) (filter (λ e. e.ended) (extents (columns ks))))) q
      ∙ ap (λ ls. (extent_of (column_at k t)).len ∷ ls) (ended-all ks true q)
  ended-all (k ∷ ks) false q =
      ap (λ b. map (λ (e : Extent). e.len) (cond b (extent_of (column_at k t) ∷ filter (λ e. e.ended) (extents (columns ks))) (filter (λ e. e.ended) (extents (columns ks))))) q
      ∙ ended-all ks false q

  same-length : (k : ℕ) (ks : List ℕ) → zip_length true (extents (columns (k ∷ ks))) ≡ length t.rows
  same-length k ks = by (not (is_empty t.broken)) refl
    where
      lens : List ℕ
      lens = map (λ (e : Extent). e.len) (extents (columns (k ∷ ks)))

      by : (b : Bool) → not (is_empty t.broken) ≡ b → least_or (greatest (map (λ (e : Extent). e.len) (extents (columns (k ∷ ks))))) (ended_lengths (extents (columns (k ∷ ks)))) ≡ length t.rows
      by true q =
          ap (least_or (greatest (map (λ (e : Extent). e.len) (extents (columns (k ∷ ks)))))) (ended-all (k ∷ ks) true q)
          ∙ ap (λ m. fold min m (map (λ (e : Extent). e.len) (extents (columns ks)))) (extent-length k)
          ∙ fold-min_same (length t.rows) (map (λ (e : Extent). e.len) (extents (columns ks))) (all-lengths ks)
      by false q =
          let e : max 0 ((extent_of (column_at k t)).len) ≡ length t.rows = (let l = extent-length k in omega arith) in
          ap (least_or (greatest (map (λ (e : Extent). e.len) (extents (columns (k ∷ ks)))))) (ended-all (k ∷ ks) false q)
          ∙ ap (λ m. fold max m (map (λ (e : Extent). e.len) (extents (columns ks)))) e
          ∙ fold-max_same (length t.rows) (map (λ (e : Extent). e.len) (extents (columns ks))) (all-lengths ks)

  -- a row of the zip is a row of the table
  cell-is : (i k : ℕ) → i < length t.rows → cell_in_row true i (column_at k t) ≡ value (get_or (get_or t.rows i []) k val.Null)
  cell-is i k h =
      get_or-map value (values_at k t.rows) i val.Null (value val.Null) (let e = length-map t.rows (λ row. get_or row k val.Null) in omega arith)
      ∙ ap value (get_or-map (λ row. get_or row k val.Null) t.rows i [] val.Null h)

  row-is : (i : ℕ) (ks : List ℕ) → i < length t.rows → map (cell_in_row true i) (columns ks) ≡ map value (map (λ k. get_or (get_or t.rows i []) k val.Null) ks)
  row-is i [] h = refl
  row-is i (k ∷ ks) h = ap (λ c. c ∷ map (cell_in_row true i) (columns ks)) (cell-is i k h) ∙ ap (λ cs. value (get_or (get_or t.rows i []) k val.Null) ∷ cs) (row-is i ks h)

  fitting-rows : (rows : List (List Value)) → AllByRecursion (FitsRow t.schema) rows → map (λ row. map (λ k. get_or row k val.Null) (below (length t.schema))) rows ≡ rows
  fitting-rows [] f = refl
  fitting-rows (r ∷ rows) f =
      ap (λ w. map (λ k. get_or r k val.Null) (below w) ∷ map (λ row. map (λ k. get_or row k val.Null) (below (length t.schema))) rows) (sym (fits-length t.schema r f.0))
      ∙ ap (λ row. row ∷ map (λ row. map (λ k. get_or row k val.Null) (below (length t.schema))) rows) (places-all r val.Null)
      ∙ ap (λ more. r ∷ more) (fitting-rows rows f.1)

  rows-are : FitsTable t → zip_rows true (length t.rows) (columns_of t) ≡ map (map value) t.rows
  rows-are f =
      map-below (length t.rows) (λ i. map (cell_in_row true i) (columns_of t)) (λ i. map value (map (λ k. get_or (get_or t.rows i []) k val.Null) (below (length t.schema)))) (λ i h. row-is i (below (length t.schema)) h)
      ∙ sym (map-map (λ row. map value (map (λ k. get_or row k val.Null) (below (length t.schema)))) (λ i. get_or t.rows i []) (below (length t.rows)))
      ∙ ap (map (λ row. map value (map (λ k. get_or row k val.Null) (below (length t.schema))))) (places-all t.rows [])
      ∙ sym (map-map (map value) (λ row. map (λ k. get_or row k val.Null) (below (length t.schema))) t.rows)
      ∙ ap (map (map value)) (fitting-rows t.rows f)

  -- its causes are those of the table
  cells-clean : (vs : List Value) → flat_map cell_causes (map value vs) ≡ []
  cells-clean [] = refl
  cells-clean (v ∷ vs) = cells-clean vs

  causes-of : (k : ℕ) → column_causes (column_at k t) ≡ t.broken
  causes-of k = ap (λ cs. cs ++ t.broken) (cells-clean (values_at k t.rows))

  causes-in : (ks : List ℕ) (c : Cause) → Contains (flat_map column_causes (columns ks)) c → Contains t.broken c
  causes-in [] c (k, h, e) = absurd (omega arith)
  causes-in (k ∷ ks) c h = by (Contains-append_cases (column_causes (column_at k t)) (flat_map column_causes (columns ks)) c h) (causes-in ks c)
    where
      by : Contains (column_causes (column_at k t)) c ⊎ Contains (flat_map column_causes (columns ks)) c → (Contains (flat_map column_causes (columns ks)) c → Contains t.broken c) → Contains t.broken c
      by (inl g) rest = subst (λ cs. Contains cs c) (causes-of k) g
      by (inr g) rest = rest g

  causes-out : (k : ℕ) (ks : List ℕ) (c : Cause) → Contains t.broken c → Contains (flat_map column_causes (columns (k ∷ ks))) c
  causes-out k ks c h = Contains-append_left (column_causes (column_at k t)) (flat_map column_causes (columns ks)) c (subst (λ cs. Contains cs c) (sym (causes-of k)) h)

  none-ended : (ks : List ℕ) → t.broken ≡ [] → list_any is_ended (columns ks) ≡ false
  none-ended [] e = refl
  none-ended (k ∷ ks) e = ap (λ cs. not (is_empty cs) || list_any is_ended (columns ks)) e ∙ none-ended ks e

  nothing-lost : (ks : List ℕ) → flat_map (λ (c : Column). c.lost) (columns ks) ≡ []
  nothing-lost [] = refl
  nothing-lost (k ∷ ks) = nothing-lost ks

no-broadcast : (cs : List Column) → filter (λ c. false) cs ≡ []
no-broadcast [] = refl
no-broadcast (c ∷ cs) = no-broadcast cs

none-unseen : (m : ℕ) (cs : List Column) → unseen_causes true m cs ≡ []
none-unseen zero cs = ap (flat_map (λ (c : Column). flat_map cell_causes c.cells)) (no-broadcast cs)
none-unseen (suc m) cs = refl

contains-some : (cs : List Cause) (c : Cause) → Contains cs c → not (is_empty cs) ≡ true
contains-some [] c (k, h, e) = absurd (omega arith)
contains-some (d ∷ ds) c h = refl

-- The zip of the columns of one table.
module _ (node : ℕ) (t : Table) (k : ℕ) (ks : List ℕ) (places : below (length t.schema) ≡ k ∷ ks) (fits : FitsTable t) where
  length-is : zip_length true (extents (columns_of t)) ≡ length t.rows
  length-is = ap (λ is. zip_length true (extents (columns t is))) places ∙ same-length t k ks

  rows-back : (zipped true node (columns_of t)).rows ≡ t.rows
  rows-back = ap (λ m. rows_before_fault (zip_rows true m (columns_of t))) length-is ∙ ap rows_before_fault (rows-are t fits) ∙ whole-rows t.rows

  in-either : (b : Bool) (c : Cause) → Contains (cond b (zip_causes true node (columns_of t)) []) c → Contains t.broken c
  in-either true c h = causes-in t (below (length t.schema)) c (subst (λ cs. Contains cs c) (append-nil (flat_map column_causes (columns_of t))) h)
  in-either false c (j, h, e) = absurd (omega arith)

  faulty : Bool
  faulty = list_any is_faulty_row (aligned true node (columns_of t)).rows

  ended-first : (c : Cause) → Contains t.broken c → list_any is_ended (columns_of t) ≡ true
  ended-first c h = ap (λ is. list_any is_ended (columns t is)) places ∙ or-left (not (is_empty t.broken)) (list_any is_ended (columns t ks)) (contains-some t.broken c h)

  out-again : (c : Cause) → Contains t.broken c → Contains (zipped true node (columns_of t)).broken c
  out-again c h =
      let found : Contains (flat_map column_causes (columns_of t)) c = subst (λ is. Contains (flat_map column_causes (columns t is)) c) (sym places) (causes-out t k ks c h) in
      let more : Contains (zip_causes true node (columns_of t)) c = Contains-append_left (flat_map column_causes (columns_of t)) [] c found in
      let test = or-left (ends_early true (columns_of t)) (list_any is_faulty_row (aligned true node (columns_of t)).rows) (or-left (list_any is_ended (columns_of t)) false (ended-first c h)) in
      subst (λ b. Contains (cond b (zip_causes true node (columns_of t)) []) c) (sym test) more

  pub zipped-one : ((zipped true node (columns_of t)).rows ≡ t.rows) × SameCauses (zipped true node (columns_of t)).broken t.broken × ((zipped true node (columns_of t)).lost ≡ [])
  zipped-one = (
    rows-back,
    (λ c. (in-either _ c, out-again c)),
    ap (λ cs. cs ++ unseen_causes true (zip_length true (extents (columns_of t))) (columns_of t)) (nothing-lost t (below (length t.schema))) ∙ none-unseen _ (columns_of t),
  )

below-some : (n : ℕ) → n ≢ 0 → (k : ℕ) × (ks : List ℕ) × (below n ≡ k ∷ ks)
below-some zero h = absurd (h refl)
below-some (suc n) h = by (below n) n
  where
    by : (ns : List ℕ) (n : ℕ) → (k : ℕ) × (ks : List ℕ) × (ns ++ n ∷ [] ≡ k ∷ ks)
    by [] n = (n, [], refl)
    by (m ∷ ms) n = (m, ms ++ n ∷ [], refl)

pub one-input : (node : ℕ) (t : Table) → t.schema ≢ [] → FitsTable t
    → ((zipped true node (columns_of t)).rows ≡ t.rows) × SameCauses (zipped true node (columns_of t)).broken t.broken × ((zipped true node (columns_of t)).lost ≡ [])
one-input node t some fits = let b = below-some (length t.schema) (by t.schema some) in zipped-one node t b.0 b.1 b.2 fits
  where
    by : (s : Fields) → s ≢ [] → length s ≢ 0
    by [] h e = h refl
    by (f ∷ fs) h e = cc
