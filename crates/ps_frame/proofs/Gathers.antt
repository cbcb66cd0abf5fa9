-- What stands at chosen places.
use Rattle.std.proofs.Common.{◌≡◌, ℕ, zero, suc, ◌<◌, ◌≤◌, List, [], ◌∷◌, ◌++◌, ◌+◌, length, take, drop, replicate, get_or, Bool, true, false, refl, sym, ◌∙◌, ap, subst, add-one, arith}
use native.Mathlib.Decide.{dec_lt}
use mathlib.Core.Logic.{dite}
use Rattle.std.specs.Prelude.{map, slice_get, option_map, IfSome, IsTrue, Option, Some, None, if◌then◌else◌}
use Rattle.std.specs.List.{All, AllByRecursion, list_all}
use Rattle.std.proofs.lemmas.List.{drop-map, get_or-map, get_or_append_left, get_or_at, length-append, length-map, take-map}
use Rattle.std.proofs.lemmas.List.Elements.{All-drop, All-from_recursion, All-map, All-take, recursion_from_All}
use Rattle.std.proofs.lemmas.Option.{get_or_from_slice_get, same_Some, slice_get-map}
use Rattle.ps_frame.proofs.Lists.{and_both, both}
use Rattle.ps_frame.proofs.Masks.{length-kept, trues-le-length}
use Rattle.ps_frame.proofs.Rows.{length-rows_of}
use Rattle.ps_frame.specs.Frames.{AllOfHeight, IsFrame, column_values, kept, part_of}
use Rattle.ps_frame.specs.Aggregates.{max_rows}
use Rattle.ps_frame.specs.Gathered.{gathered, picked, rows_at, true_rows, value_or_null}
use Rattle.ps_frame.specs.Tables.{Fields, beside, rows_of}
use Rattle.ps_frame.specs.Series.{Series}
use Rattle.ps_frame.specs.Values.{is_true}
use Rattle.ps_frame.specs.Zip.{below}
use Rattle.ps_frame.specs.declared.value.DataType.{DataType}
use Rattle.ps_frame.specs.declared.value.Value.{Value}
use Rattle.ps_frame.specs.declared.value.Value.TheVariants as val

-- a test of all holds of the item at a place, if it holds of what stands for none
passes-at : {A : Type 0} (p : A → Bool) (d : A) (xs : List A) (i : ℕ) → IsTrue (p d) → IsTrue (list_all p xs) → IsTrue (p (get_or xs i d))
passes-at p d [] i g h = g
passes-at p d (x ∷ xs) zero g h = (both (p x) (list_all p xs) h).0
passes-at p d (x ∷ xs) (suc i) g h = passes-at p d xs i g (both (p x) (list_all p xs) h).1

-- and so of those at many
pub list_all-gathered : {A : Type 0} (p : A → Bool) (d : A) (xs : List A) (places : List ℕ) → IsTrue (p d) → IsTrue (list_all p xs) → IsTrue (list_all p (map (λ i. get_or xs i d) places))
list_all-gathered p d xs [] g h = refl
list_all-gathered p d xs (i ∷ places) g h = and_both (p (get_or xs i d)) (list_all p (map (λ i. get_or xs i d) places)) (passes-at p d xs i g h) (list_all-gathered p d xs places g h)

pub list_all-gathered_or_null : (p : Value → Bool) (xs : List Value) (places : List (Option ℕ)) → IsTrue (p val.Null) → IsTrue (list_all p xs) → IsTrue (list_all p (map (λ place. value_or_null xs place) places))
list_all-gathered_or_null p xs [] g h = refl
list_all-gathered_or_null p xs (None ∷ places) g h = and_both (p val.Null) (list_all p (map (λ place. value_or_null xs place) places)) g (list_all-gathered_or_null p xs places g h)
list_all-gathered_or_null p xs (Some i ∷ places) g h = and_both (p (get_or xs i val.Null)) (list_all p (map (λ place. value_or_null xs place) places)) (passes-at p val.Null xs i g h) (list_all-gathered_or_null p xs places g h)

pub list_all-picked : (p : Value → Bool) (places : Option (List ℕ)) (xs : List Value) → IsTrue (p val.Null) → IsTrue (list_all p xs) → IsTrue (list_all p (picked places xs))
list_all-picked p None xs g h = h
list_all-picked p (Some places) xs g h = list_all-gathered p val.Null xs places g h

-- the value at the i-th place
pub picked-at : (xs : List Value) (places : List ℕ) (i j : ℕ) (x : Value) → slice_get places i ≡ Some j → slice_get xs j ≡ Some x → slice_get (map (λ k. get_or xs k val.Null) places) i ≡ Some x
picked-at xs places i j x e f =
    slice_get-map (λ k. get_or xs k val.Null) places i ∙ ap (option_map (λ k. get_or xs k val.Null)) e
    ∙ ap Some (get_or_from_slice_get xs j x val.Null f)

-- a place that is named is below what each place is below
pub place-within : (n : ℕ) (places : List ℕ) (i j : ℕ) → All (λ k. k < n) places → i < length places → slice_get places i ≡ Some j → j < n
place-within n places i j h l e = subst (λ k. k < n) (get_or_from_slice_get places i j 0 e) (h i 0 l)

-- a part of what stands at places stands at a part of them
pub picked-part : (o n : ℕ) (xs : List Value) (places : List ℕ) → map (λ i. get_or xs i val.Null) (take n (drop o places)) ≡ take n (drop o (map (λ i. get_or xs i val.Null) places))
picked-part o n xs places =
    sym (ap (take n) (drop-map (λ i. get_or xs i val.Null) o places) ∙ take-map (λ i. get_or xs i val.Null) n (drop o places))

pub within-part : (m o n : ℕ) (places : List ℕ) → All (λ i. i < m) places → All (λ i. i < m) (take n (drop o places))
within-part m o n places h = All-take (λ i. i < m) n (drop o places) (All-drop (λ i. i < m) o places h)

-- what stands at places of what stands at places
through-each : (xs : List Value) (places rows : List ℕ) → AllByRecursion (λ i. i < length places) rows
    → map (λ i. get_or xs i val.Null) (map (λ i. get_or places i 0) rows) ≡ map (λ i. get_or (map (λ j. get_or xs j val.Null) places) i val.Null) rows
through-each xs places [] h = refl
through-each xs places (i ∷ rows) h =
    ap (λ x. x ∷ map (λ i. get_or xs i val.Null) (map (λ i. get_or places i 0) rows)) (sym (get_or-map (λ j. get_or xs j val.Null) places i 0 val.Null h.0))
    ∙ ap (λ ys. get_or (map (λ j. get_or xs j val.Null) places) i val.Null ∷ ys) (through-each xs places rows h.1)

pub picked-through : (xs : List Value) (places rows : List ℕ) → All (λ i. i < length places) rows
    → map (λ i. get_or xs i val.Null) (map (λ i. get_or places i 0) rows) ≡ map (λ i. get_or (map (λ j. get_or xs j val.Null) places) i val.Null) rows
picked-through xs places rows h = through-each xs places rows (recursion_from_All (λ i. i < length places) rows h)

pub within-through : (n : ℕ) (places rows : List ℕ) → All (λ i. i < n) places → All (λ i. i < length places) rows → All (λ i. i < n) (map (λ i. get_or places i 0) rows)
within-through n places rows g h = All-map (λ i. i < n) (λ i. get_or places i 0) rows (λ k d l. g (get_or rows k d) 0 (h k d l))

-- the first value again and again
pub picked-firsts : (xs : List Value) (n : ℕ) → map (λ i. get_or xs i val.Null) (replicate n 0) ≡ replicate n (get_or xs 0 val.Null)
picked-firsts xs zero = refl
picked-firsts xs (suc n) = ap (λ ys. get_or xs 0 val.Null ∷ ys) (picked-firsts xs n)

-- one more value of a front
take-more : (xs : List Value) (i : ℕ) (x : Value) → slice_get xs i ≡ Some x → take (suc i) xs ≡ take i xs ++ x ∷ []
take-more [] i x e = cc
take-more (y ∷ xs) zero x e = ap (λ z. z ∷ []) (same_Some y x e)
take-more (y ∷ xs) (suc i) x e = ap (λ zs. y ∷ zs) (take-more xs i x e)

pub take-value : (xs : List Value) (i : ℕ) (x : Value) → slice_get xs i ≡ Some x → take (i + 1) xs ≡ take i xs ++ x ∷ []
take-value xs i x e = rw add-one (take-more xs i x e)

-- the numbers below n
pub length-below : (n : ℕ) → length (below n) ≡ n
length-below zero = refl
length-below (suc n) = let e = length-below n in let f = length-append (below n) (n ∷ []) in omega arith

pub get_or-below : (n i d : ℕ) → i < n → get_or (below n) i d ≡ i
get_or-below zero i d h = absurd (omega arith)
get_or-below (suc n) i d h =
    dite (dec_lt i n)
    (λ l. get_or_append_left (below n) (n ∷ []) d i (let e = length-below n in omega arith) ∙ get_or-below n i d l)
    (λ g. let e : n ≡ i = omega arith in get_or_at (below n) n [] d i (length-below n ∙ e) ∙ e)

within-below : (n : ℕ) → AllByRecursion (λ i. i < n) (below n)
within-below n = recursion_from_All (λ i. i < n) (below n) (λ k d l. let e : get_or (below n) k d ≡ k = get_or-below n k d (let f = length-below n in omega arith) in let f = length-below n in omega arith)

-- a column by its kind and values
abbrev typed : DataType → List Value → Series
typed k vs = record { kind = k; values = vs }

-- a part of a column that picks from a run, and what stands at places of it
module _ (k : DataType) (run : List Value) (places : Option (List ℕ)) (ps : List ℕ) (c : Series) where
  pub column-part : (o n : ℕ) (new : List ℕ) → typed k (picked places run) ≡ c → places ≡ Some ps → new ≡ take n (drop o ps) → typed k (map (λ i. get_or run i val.Null) new) ≡ part_of o n c
  column-part o n new view is made =
      ap (λ ns. typed k (map (λ i. get_or run i val.Null) ns)) made ∙ ap (typed k) (picked-part o n run ps)
      ∙ ap (λ q. part_of o n (typed k (picked q run))) (sym is) ∙ ap (part_of o n) view

  column-length : typed k (picked places run) ≡ c → places ≡ Some ps → length c.values ≡ length ps
  column-length view is = ap (λ (t : Series). length t.values) (sym view) ∙ ap (λ q. length (picked q run)) is ∙ length-map ps (λ i. get_or run i val.Null)

  rows-within : (rows : List ℕ) → typed k (picked places run) ≡ c → places ≡ Some ps → All (λ i. i < length c.values) rows → All (λ i. i < length ps) rows
  rows-within rows view is h = subst (λ n. All (λ i. i < n) rows) (column-length view is) h

  pub column-gathered : (rows new : List ℕ) → typed k (picked places run) ≡ c → places ≡ Some ps → new ≡ map (λ i. get_or ps i 0) rows → All (λ i. i < length c.values) rows → typed k (map (λ i. get_or run i val.Null) new) ≡ gathered rows c
  column-gathered rows new view is made h =
      ap (λ ns. typed k (map (λ i. get_or run i val.Null) ns)) made ∙ ap (typed k) (picked-through run ps rows (rows-within rows view is h))
      ∙ ap (λ q. gathered rows (typed k (picked q run))) (sym is) ∙ ap (gathered rows) view

  pub column-within : (rows new : List ℕ) → typed k (picked places run) ≡ c → places ≡ Some ps → new ≡ map (λ i. get_or ps i 0) rows → IfSome places (λ (qs : List ℕ). All (λ i. i < length run) qs) → All (λ i. i < length c.values) rows → All (λ i. i < length run) new
  column-within rows new view is made g h =
      let there : All (λ i. i < length run) ps = subst (λ (q : Option (List ℕ)). IfSome q (λ (qs : List ℕ). All (λ i. i < length run) qs)) is g in
      subst (λ (ns : List ℕ). All (λ i. i < length run) ns) (sym made) (within-through (length run) ps rows there (rows-within rows view is h))

-- what stands at places of a column, once these are known
pub gathered-firsts : (c : Series) (n : ℕ) (places : List ℕ) → places ≡ replicate n 0 → gathered places c ≡ typed c.kind (replicate n (get_or c.values 0 val.Null))
gathered-firsts c n places e = ap (λ ps. gathered ps c) e ∙ ap (typed c.kind) (picked-firsts c.values n)

-- what a mask keeps of what a function makes of a list
module _ {A B : Type 0} (f : A → B) where
  map_if : (t : Bool) (x : A) (xs : List A) (ys : List B) → map f xs ≡ ys → map f (if t then x ∷ xs else xs) ≡ (if t then f x ∷ ys else ys)
  map_if true x xs ys e = ap (λ zs. f x ∷ zs) e
  map_if false x xs ys e = e

  map-kept : (ms : List Value) (xs : List A) → map f (kept ms xs) ≡ kept ms (map f xs)
  map-kept [] xs = refl
  map-kept (m ∷ ms) [] = refl
  map-kept (m ∷ ms) (x ∷ xs) = map_if (is_true m) x (kept ms xs) (kept ms (map f xs)) (map-kept ms xs)

module _ {A : Type 0} (P : A → Type 0) where
  each_if : (t : Bool) (x : A) (xs : List A) → P x → AllByRecursion P xs → AllByRecursion P (if t then x ∷ xs else xs)
  each_if true x xs p h = (p, h)
  each_if false x xs p h = h

  each-kept : (ms : List Value) (xs : List A) → AllByRecursion P xs → AllByRecursion P (kept ms xs)
  each-kept [] xs h = tt
  each-kept (m ∷ ms) [] h = tt
  each-kept (m ∷ ms) (x ∷ xs) h = each_if (is_true m) x (kept ms xs) h.0 (each-kept ms xs h.1)

map-map : {A B C : Type 0} (f : B → C) (g : A → B) (xs : List A) → map f (map g xs) ≡ map (λ x. f (g x)) xs
map-map f g [] = refl
map-map f g (x ∷ xs) = ap (λ zs. f (g x) ∷ zs) (map-map f g xs)

map-append : {A B : Type 0} (f : A → B) (xs ys : List A) → map f (xs ++ ys) ≡ map f xs ++ map f ys
map-append f [] ys = refl
map-append f (x ∷ xs) ys = ap (λ zs. f x ∷ zs) (map-append f xs ys)

below_suc : (n : ℕ) → below (suc n) ≡ 0 ∷ map suc (below n)
below_suc zero = refl
below_suc (suc n) = ap (λ ns. ns ++ suc n ∷ []) (below_suc n) ∙ ap (λ ns. 0 ∷ ns) (sym (map-append suc (below n) (n ∷ [])))

-- what stands at each place of a list is the list
pub below-places : {A : Type 0} (xs : List A) (d : A) → map (λ i. get_or xs i d) (below (length xs)) ≡ xs
below-places [] d = refl
below-places (x ∷ xs) d =
    ap (map (λ i. get_or (x ∷ xs) i d)) (below_suc (length xs))
    ∙ ap (λ ys. x ∷ ys) (map-map (λ i. get_or (x ∷ xs) i d) suc (below (length xs)) ∙ below-places xs d)

-- what stands at the rows beside which a mask is true is what the mask keeps
pub kept-true_rows : {A : Type 0} (ms : List Value) (xs : List A) (d : A) → length ms ≡ length xs → map (λ i. get_or xs i d) (true_rows ms) ≡ kept ms xs
kept-true_rows ms xs d e =
    map-kept (λ i. get_or xs i d) ms (below (length ms))
    ∙ ap (λ n. kept ms (map (λ i. get_or xs i d) (below n))) e
    ∙ ap (kept ms) (below-places xs d)

pub within-true_rows : (ms : List Value) (n : ℕ) → length ms ≡ n → All (λ i. i < n) (true_rows ms)
within-true_rows ms n e =
    All-from_recursion (λ i. i < n) (true_rows ms) (each-kept (λ i. i < n) ms (below (length ms)) (subst (λ k. AllByRecursion (λ i. i < k) (below (length ms))) e (within-below (length ms))))

-- there are at most as many rows as the mask has values
pub few-true_rows : (ms : List Value) (n : ℕ) → length ms ≤ n → length (true_rows ms) ≤ n
few-true_rows ms n h = let e = length-kept ms (below (length ms)) (sym (length-below (length ms))) in let few = trues-le-length ms in omega arith

-- the row at a place is the value there in front of the rest
row-at : (c : List Value) (rows : List (List Value)) (i : ℕ) → length c ≡ length rows → i < length c → get_or (beside c rows) i [] ≡ get_or c i val.Null ∷ get_or rows i []
row-at [] rows i e h = absurd (omega arith)
row-at (x ∷ c) [] i e h = absurd (omega arith)
row-at (x ∷ c) (r ∷ rows) zero e h = refl
row-at (x ∷ c) (r ∷ rows) (suc i) e h = row-at c rows i (omega arith) (omega arith)

rows_at-beside : (places : List ℕ) (c : List Value) (rows : List (List Value)) → length c ≡ length rows → AllByRecursion (λ i. i < length c) places
    → rows_at places (beside c rows) ≡ beside (map (λ i. get_or c i val.Null) places) (rows_at places rows)
rows_at-beside [] c rows e h = refl
rows_at-beside (i ∷ places) c rows e h =
    ap (λ r. r ∷ rows_at places (beside c rows)) (row-at c rows i e h.0)
    ∙ ap (λ rs. (get_or c i val.Null ∷ get_or rows i []) ∷ rs) (rows_at-beside places c rows e h.1)

empty-at : (n i : ℕ) → get_or {A = List Value} (replicate n []) i [] ≡ []
empty-at zero i = refl
empty-at (suc n) zero = refl
empty-at (suc n) (suc i) = empty-at n i

rows_at-replicate : (places : List ℕ) (n : ℕ) → rows_at places (replicate n []) ≡ replicate (length places) []
rows_at-replicate [] n = refl
rows_at-replicate (i ∷ places) n = ap (λ r. r ∷ rows_at places (replicate n [])) (empty-at n i) ∙ ap (λ rs. [] ∷ rs) (rows_at-replicate places n)

rows_of-each : (places : List ℕ) (h : ℕ) (cs : List Series) → AllOfHeight h cs → AllByRecursion (λ i. i < h) places
    → rows_of (length places) (column_values (map (gathered places) cs)) ≡ rows_at places (rows_of h (column_values cs))
rows_of-each places h [] p q = sym (rows_at-replicate places h)
rows_of-each places h (c ∷ cs) p q =
    let there : AllByRecursion (λ i. i < length c.values) places = rw p.0 q in
    ap (beside (map (λ i. get_or c.values i val.Null) places)) (rows_of-each places h cs p.1 q)
    ∙ sym (rows_at-beside places c.values (rows_of h (column_values cs)) (p.0 ∙ sym (length-rows_of h cs p.1)) there)

-- the rows of what stands at places of the columns
pub rows_of-gathered : (places : List ℕ) (h : ℕ) (cs : List Series) → AllOfHeight h cs → All (λ i. i < h) places
    → rows_of (length places) (column_values (map (gathered places) cs)) ≡ rows_at places (rows_of h (column_values cs))
rows_of-gathered places h cs p q = rows_of-each places h cs p (recursion_from_All (λ i. i < h) places q)

-- their kinds and heights
kinds-gathered : (places : List ℕ) (cs : List Series) → map (λ (c : Series). c.kind) (map (gathered places) cs) ≡ map (λ (c : Series). c.kind) cs
kinds-gathered places [] = refl
kinds-gathered places (c ∷ cs) = ap (λ ks. c.kind ∷ ks) (kinds-gathered places cs)

heights-gathered : (places : List ℕ) (cs : List Series) → AllOfHeight (length places) (map (gathered places) cs)
heights-gathered places [] = tt
heights-gathered places (c ∷ cs) = (length-map places (λ i. get_or c.values i val.Null), heights-gathered places cs)

pub frame-gathered : (schema : Fields) (places : List ℕ) (cs : List Series) (h : ℕ) → IsFrame schema cs h → length places ≤ max_rows → IsFrame schema (map (gathered places) cs) (length places)
frame-gathered schema places cs h f small = record { kinds = kinds-gathered places cs ∙ f.kinds; heights = heights-gathered places cs; small = small }
