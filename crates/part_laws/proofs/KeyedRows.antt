-- The rows of a table beside their keys, and those of a part of it.
use Rattle.std.proofs.Common.{◌≡◌, ℕ, zero, suc, ◌<◌, List, [], ◌∷◌, ◌++◌, length, take, drop, get_or, refl, sym, ap, subst, ◌∙◌, arith, length-append}
use Rattle.std.proofs.lemmas.List.{get_or-map, length-map}
use Rattle.std.proofs.lemmas.List.Quantifiers.{position-Some}
use Rattle.std.specs.Prelude.{◌≢◌, Bool, true, false, cond, filter, map, nat_lt, IsTrue, Option, Some, None}
use Rattle.std.specs.List.{AllByRecursion, list_any}
use Rattle.std.specs.Str.{bytes_eq}
use Rattle.ps_frame.specs.Causes.{Cause, Cell, value, cell_values}
use Rattle.ps_frame.specs.Eval.{at, cell_of_row}
use Rattle.ps_frame.specs.Operators.{binary_value, cast_cell, cast_value, choice_of}
use Rattle.ps_frame.specs.Tables.{Fields, Row, field_index}
use Rattle.ps_frame.specs.Trees.{Tree}
use Rattle.ps_frame.specs.Zip.{Zipped, below, is_faulty_row, row_causes, rows_before_fault, zip_causes}
use Rattle.ps_frame.specs.declared.value.DataType.TheVariants as kind
use Rattle.ps_frame.specs.declared.value.Value.TheVariants as val
use Rattle.ps_meaning.specs.Cases.{keyed}
use Rattle.ps_meaning.specs.Sound.{AreElementwise, have_all_kinds}
use Rattle.ps_meaning.proofs.Begins.{map-below}
use Rattle.ps_rowwise.proofs.ByRow.{cell_for, function_cell, place_cell}
use Rattle.passing_laws.proofs.FilterPieces.{keyed-columns, keyed-go, keyed-some, keyed_goers}
use Rattle.passing_laws.proofs.Goers.{AllGo, AreClean, Goer, all_lone, cells_of, columns}
use Rattle.passing_laws.proofs.Trees.{column_goer, tree_goer, trees-go}
use Rattle.passing_laws.proofs.ZipPieces.{table_with}
use Rattle.passing_laws.proofs.Zips.{any-clean, while-clean, whole-clean, zip-broken, zip-rows, zip_over}

take-front : {A : Type 0} (n : ℕ) (xs ys : List A) → length xs ≡ n → take n (xs ++ ys) ≡ xs
take-front zero [] ys e = refl
take-front zero (x ∷ xs) ys e = absurd (omega arith)
take-front (suc n) [] ys e = absurd (omega arith)
take-front (suc n) (x ∷ xs) ys e = ap (λ l. x ∷ l) (take-front n xs ys (omega arith))

drop-front : {A : Type 0} (n : ℕ) (xs ys : List A) → length xs ≡ n → drop n (xs ++ ys) ≡ ys
drop-front zero [] ys e = refl
drop-front zero (x ∷ xs) ys e = absurd (omega arith)
drop-front (suc n) [] ys e = absurd (omega arith)
drop-front (suc n) (x ∷ xs) ys e = drop-front n xs ys (omega arith)

below-long : (n : ℕ) → length (below n) ≡ n
below-long zero = refl
below-long (suc n) = let h = below-long n in let k = length-append (below n) (n ∷ []) in omega arith

front-at : {A : Type 0} (xs ys : List A) (i : ℕ) (d : A) → i < length xs → get_or (xs ++ ys) i d ≡ get_or xs i d
front-at [] ys i d h = absurd (omega arith)
front-at (x ∷ xs) ys zero d h = refl
front-at (x ∷ xs) ys (suc i) d h = front-at xs ys i d (omega arith)

last-at : {A : Type 0} (xs : List A) (y : A) (i : ℕ) (d : A) → i ≡ length xs → get_or (xs ++ y ∷ []) i d ≡ y
last-at [] y zero d h = refl
last-at [] y (suc i) d h = absurd (omega arith)
last-at (x ∷ xs) y zero d h = absurd (omega arith)
last-at (x ∷ xs) y (suc i) d h = last-at xs y i d (omega arith)

below-at : (n i : ℕ) → i < n → get_or (below n) i 0 ≡ i
below-at zero i h = absurd (omega arith)
below-at (suc n) i h = by (below-at n i) (nat_lt i n) refl
  where
    by : (i < n → get_or (below n) i 0 ≡ i) → (b : Bool) → nat_lt i n ≡ b → get_or (below n ++ n ∷ []) i 0 ≡ i
    by rest true e = let lt : i < n = grind arith in let k = below-long n in front-at (below n) (n ∷ []) i 0 (omega arith) ∙ rest lt
    by rest false e = let same : i ≡ n = grind arith in let k = below-long n in last-at (below n) n i 0 (omega arith) ∙ sym same

map-twice : {A B C : Type 0} (g : B → C) (f : A → B) (xs : List A) → map g (map f xs) ≡ map (λ x. g (f x)) xs
map-twice g f [] = refl
map-twice g f (x ∷ xs) = ap (λ l. g (f x) ∷ l) (map-twice g f xs)

pub filter-of-map : {A B : Type 0} (p : B → Bool) (f : A → B) (xs : List A) → filter p (map f xs) ≡ map f (filter (λ x. p (f x)) xs)
filter-of-map p f [] = refl
filter-of-map {A} {B} p f (x ∷ xs) = by (p (f x)) (filter-of-map p f xs)
  where
    by : (b : Bool) → filter p (map f xs) ≡ map f (filter (λ x. p (f x)) xs) → cond b (f x ∷ filter p (map f xs)) (filter p (map f xs)) ≡ map f (cond b (x ∷ filter (λ y. p (f y)) xs) (filter (λ y. p (f y)) xs))
    by true h = ap (λ l. f x ∷ l) h
    by false h = h

pub map-same : {A B : Type 0} (f g : A → B) → ((x : A) → f x ≡ g x) → (xs : List A) → map f xs ≡ map g xs
map-same f g same xs = λ i. map (λ x. same x i) xs

module _ (node : ℕ) (s : Fields) where
  -- the values that a table of this schema shows of a row
  abbrev pub shown : Row → Row
  shown r = map (λ i. at i r) (below (length s))

  shown-long : (r : Row) → length (shown r) ≡ length s
  shown-long r = length-map (below (length s)) (λ i. at i r) ∙ below-long (length s)

  shown-at : (r : Row) (i : ℕ) → i < length s → at i (shown r) ≡ at i r
  shown-at r i h = let k = below-long (length s) in get_or-map (λ i. at i r) (below (length s)) i 0 val.Null (omega arith) ∙ ap (λ j. at j r) (below-at (length s) i h)

  place-same : (name : List ℕ) (o : Option ℕ) → field_index name s ≡ o → (r : Row) → place_cell node s o (shown r) ≡ place_cell node s o r
  place-same name None e r = refl
  place-same name (Some i) e r = ap value (shown-at r i (position-Some (λ f. bytes_eq name f.0) s i ([], kind.Boolean) e).0)

  -- an expression sees of a row what the table shows
  cell-same : (t : Tree) (r : Row) → cell_for node s t (shown r) ≡ cell_for node s t r
  cell-same (Tree.column name) r = place-same name (field_index name s) refl r
  cell-same (Tree.literal l) r = refl
  cell-same (Tree.binary o l m) r = λ i. cell_of_row (λ row. value (binary_value o (at 0 row) (at 1 row))) (cell-same l r i ∷ cell-same m r i ∷ [])
  cell-same (Tree.cast k strict e) r = λ i. cell_of_row (λ row. cast_cell node strict (cast_value k (at 0 row))) (cell-same e r i ∷ [])
  cell-same (Tree.ternary p a b) r = λ i. cell_of_row (λ row. value (choice_of (at 0 row) (at 1 row) (at 2 row))) (cell-same p r i ∷ cell-same a r i ∷ cell-same b r i ∷ [])
  cell-same (Tree.function g e) r = ap (function_cell node s g) (cell-same e r)
  cell-same (Tree.sort d n e) r = refl
  cell-same (Tree.sort_by d n e by) r = refl
  cell-same (Tree.gather b e i) r = refl
  cell-same (Tree.filter e by) r = refl
  cell-same (Tree.aggregate a e) r = refl
  cell-same (Tree.slice e o l) r = refl
  cell-same Tree.len r = refl
  cell-same (Tree.left_out w) r = refl
  cell-same Tree.missing r = refl

  cells-are : (is : List ℕ) (ts : List Tree) (r : Row) → cells_of (map (column_goer s) is ++ map (tree_goer node s) ts) r ≡ map (λ i. value (at i r)) is ++ map (λ t. cell_for node s t r) ts
  cells-are [] [] r = refl
  cells-are [] (t ∷ ts) r = ap (λ cs. cell_for node s t r ∷ cs) (cells-are [] ts r)
  cells-are (i ∷ is) ts r = ap (λ cs. value (at i r) ∷ cs) (cells-are is ts r)

  values-are : (is : List ℕ) (cs : List Cell) (r : Row) → cell_values (map (λ i. value (at i r)) is ++ cs) ≡ map (λ i. at i r) is ++ cell_values cs
  values-are [] cs r = refl
  values-are (i ∷ is) cs r = ap (λ vs. at i r ∷ vs) (values-are is cs r)

-- the keys of a row
module _ (node : ℕ) (s : Fields) (keys : List Tree) where
  abbrev pub key_of : Row → Row
  key_of r = cell_values (map (λ t. cell_for node s t r) keys)

  -- a row with its keys behind it
  abbrev pub with_keys : Row → Row
  with_keys r = cell_values (cells_of (keyed_goers node s keys) r)

  with-keys-is : (r : Row) → with_keys r ≡ shown node s r ++ key_of r
  with-keys-is r = ap cell_values (cells-are node s (below (length s)) keys r) ∙ values-are node s (below (length s)) (map (λ t. cell_for node s t r) keys) r

  pub front-is : (r : Row) → take (length s) (with_keys r) ≡ shown node s r
  front-is r = ap (take (length s)) (with-keys-is r) ∙ take-front (length s) (shown node s r) (key_of r) (shown-long node s r)

  -- the cells of a row are those of what is shown of it
  pub cells-shown : (r : Row) → cells_of (keyed_goers node s keys) (shown node s r) ≡ cells_of (keyed_goers node s keys) r
  cells-shown r =
      cells-are node s (below (length s)) keys (shown node s r)
      ∙ (λ i. map-below (length s) (λ j. value (at j (shown node s r))) (λ j. value (at j r)) (λ j h. ap value (shown-at node s r j h)) i ++ map-same (λ t. cell_for node s t (shown node s r)) (λ t. cell_for node s t r) (λ t. cell-same node s t r) keys i)
      ∙ sym (cells-are node s (below (length s)) keys r)

module _ (node : ℕ) (s : Fields) (keys : List Tree) (some : s ≢ []) (h : AreElementwise keys) (k : IsTrue (have_all_kinds s keys)) where
  abbrev pub key_goers : List Goer
  key_goers = keyed_goers node s keys

  pub all-go : AllGo key_goers
  all-go = keyed-go node s keys (trees-go node s keys h k)

  pub not-lone : all_lone key_goers ≡ false
  not-lone = keyed-some node s keys some

  abbrev pub keyed_over : List Row → List Cause → Zipped
  keyed_over rows causes = keyed node keys (table_with s rows causes)

  pub keyed-is : (rows : List Row) (causes : List Cause) → zip_over node key_goers all-go not-lone rows causes ≡ keyed_over rows causes
  keyed-is rows causes = keyed-columns node s keys rows causes

  abbrev pub AllClean : List Row → Type 0
  AllClean rows = AllByRecursion (AreClean key_goers) rows

  clean-rows : (rows : List Row) → AllClean rows → rows_before_fault (map (cells_of key_goers) rows) ≡ map (with_keys node s keys) rows
  clean-rows [] c = refl
  clean-rows (r ∷ rows) c = while-clean (cells_of key_goers r) (map (cells_of key_goers) rows) c.0 ∙ ap (λ l. with_keys node s keys r ∷ l) (clean-rows rows c.1)

  pub none-faulty : (rows : List Row) → AllClean rows → list_any is_faulty_row (map (cells_of key_goers) rows) ≡ false
  none-faulty [] c = refl
  none-faulty (r ∷ rows) c = any-clean (cells_of key_goers r) (map (cells_of key_goers) rows) c.0 ∙ none-faulty rows c.1

  -- rows without a faulty key stand beside their keys
  pub keyed-rows : (rows : List Row) (causes : List Cause) → AllClean rows → (keyed_over rows causes).rows ≡ map (with_keys node s keys) rows
  keyed-rows rows causes c = ap (λ (z : Zipped). z.rows) (sym (keyed-is rows causes)) ∙ zip-rows node key_goers all-go not-lone rows causes ∙ clean-rows rows c

  pub keyed-whole : (rows : List Row) → AllClean rows → (keyed_over rows []).broken ≡ []
  keyed-whole rows c = ap (λ (z : Zipped). z.broken) (sym (keyed-is rows [])) ∙ zip-broken node key_goers all-go not-lone rows [] ∙ ap (λ b. cond b (zip_causes false node (columns rows [] key_goers)) []) (none-faulty rows c)

  pub clean-keyed : (rows : List Row) → (keyed_over rows []).broken ≡ [] → AllClean rows
  clean-keyed rows e = whole-clean node key_goers all-go not-lone rows [] (ap (λ (z : Zipped). z.broken) (keyed-is rows []) ∙ e)

  filter-clean : (t : Row → Bool) (rows : List Row) → AllClean rows → AllClean (filter t rows)
  filter-clean t [] c = tt
  filter-clean t (r ∷ rows) c = by (t r) (filter-clean t rows c.1)
    where
      by : (b : Bool) → AllClean (filter t rows) → AllClean (cond b (r ∷ filter t rows) (filter t rows))
      by true f = (c.0, f)
      by false f = f

  shown-clean : (rows : List Row) → AllClean rows → AllClean (map (shown node s) rows)
  shown-clean [] c = tt
  shown-clean (r ∷ rows) c = (ap row_causes (cells-shown node s keys r) ∙ c.0, shown-clean rows c.1)

  -- the rows whose keys pass a test
  module _ (t : Row → Bool) (rows : List Row) (c : AllClean rows) where
    abbrev pub part_rows : List Row
    part_rows = map (take (length s)) (filter (λ r. t (drop (length s) r)) (keyed_over rows []).rows)

    of-those : filter (λ r. t (drop (length s) r)) (keyed_over rows []).rows ≡ map (with_keys node s keys) (filter (λ r. t (drop (length s) (with_keys node s keys r))) rows)
    of-those = ap (filter (λ r. t (drop (length s) r))) (keyed-rows rows [] c) ∙ filter-of-map (λ r. t (drop (length s) r)) (with_keys node s keys) rows

    part-shown : part_rows ≡ map (shown node s) (filter (λ r. t (drop (length s) (with_keys node s keys r))) rows)
    part-shown = ap (map (take (length s))) of-those ∙ map-twice (take (length s)) (with_keys node s keys) _ ∙ map-same (λ r. take (length s) (with_keys node s keys r)) (shown node s) (front-is node s keys) _

    pub part-clean : AllClean part_rows
    part-clean = subst AllClean (sym part-shown) (shown-clean _ (filter-clean (λ r. t (drop (length s) (with_keys node s keys r))) rows c))

    -- beside their keys they are those rows of the whole
    pub part-keyed : (keyed_over part_rows []).rows ≡ filter (λ r. t (drop (length s) r)) (keyed_over rows []).rows
    part-keyed =
        keyed-rows part_rows [] part-clean
        ∙ ap (map (with_keys node s keys)) part-shown
        ∙ map-twice (with_keys node s keys) (shown node s) _
        ∙ map-same (λ r. with_keys node s keys (shown node s r)) (with_keys node s keys) (λ r. ap cell_values (cells-shown node s keys r)) _
        ∙ sym of-those

    pub part-whole : (keyed_over part_rows []).broken ≡ []
    part-whole = keyed-whole part_rows part-clean
