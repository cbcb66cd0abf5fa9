-- The tables of the rows of each key.
use Rattle.std.proofs.Common.{◌≡◌, ℕ, zero, suc, ◌+◌, ◌<◌, ◌≤◌, List, [], ◌∷◌, ◌++◌, length, get_or, map, take, drop, Bool, true, false, cond, refl, sym, ap, subst, ◌∙◌, arith, inl, inr, length-append}
use Rattle.std.specs.Prelude.{◌==◌, filter as kept}
use Rattle.std.specs.List.{All, AllByRecursion, concat}
use Rattle.std.proofs.lemmas.Bool.{cases_eq, eq-eqb, ne_eqb}
use Rattle.std.proofs.lemmas.List.{append-nil, get_or-map, get_or_append_left, get_or_push, length-map, length_push, map_push}
use Rattle.std.proofs.lemmas.List.Elements.{All-append, All-nil}
use Rattle.std.proofs.lemmas.List.Folds.{concat-append}
use Rattle.ps_frame.specs.Gathered.{rows_at}
use Rattle.ps_frame.specs.Lawful.{FitsFrame, FitsKinds}
use Rattle.ps_frame.specs.Frames.{kinds_of}
use Rattle.ps_frame.specs.Tables.{Fields, Frame}
use Rattle.ps_frame.specs.Values.{same_row}
use Rattle.ps_frame.specs.Zip.{below}
use Rattle.ps_frame.specs.declared.value.Value.{Value}
use Rattle.ps_meaning.specs.Groups.{keys_of, rows_of_key}
use Rattle.ps_keys.specs.KeyRows.{AreBelow, places_of_each}
use Rattle.ps_keys.specs.Numbering.{Numbers, places_of}
use Rattle.ps_keys.specs.declared.numbering.Numbering.{Numbering}
use Rattle.ps_keys.proofs.FirstRows.{at-below, by_pushes, kept-below, length-below}
use Rattle.ps_keys.proofs.KeptRows.{kept-all, kept-at, map-places}
use Rattle.ps_keys.proofs.Numberings.{distinct-length, key-matches, keys-length}
use Rattle.ps_keys.proofs.Places.{places-push}
use Rattle.ps_keys.proofs.RowValues.{map-map}
use Rattle.ps_groups.specs.Grouped.{key_frame, key_frames}
use Rattle.ps_groups.specs.GroupTables.{table_at}

-- the places of all numbers below a count
abbrev pub all_places : ℕ → List ℕ → List ℕ
all_places n numbers = concat (places_of_each n numbers)

all-places-more : (n : ℕ) (xs : List ℕ) → all_places (suc n) xs ≡ all_places n xs ++ places_of n xs
all-places-more n xs =
    ap concat (map_push (λ k. places_of k xs) (below n) n)
    ∙ concat-append (map (λ k. places_of k xs) (below n)) (places_of n xs ∷ [])
    ∙ ap (λ ys. all_places n xs ++ ys) (append-nil (places_of n xs))

-- they are places of the list
pub all-places-below : (n : ℕ) (xs : List ℕ) → All (λ i. i < length xs) (all_places n xs)
all-places-below zero xs = All-nil (λ i. i < length xs)
all-places-below (suc n) xs =
    subst (All (λ i. i < length xs)) (sym (all-places-more n xs))
    (All-append (λ i. i < length xs) (all_places n xs) (places_of n xs) (all-places-below n xs) (kept-all (length xs) (λ i. get_or xs i 0 == n)))

abbrev counts-one : Bool → ℕ
counts-one t = cond t 1 0

-- one number more has one place more, where it is below the count
one-more : (k : ℕ) (xs : List ℕ) (x : ℕ) → length (places_of k (xs ++ x ∷ [])) ≡ length (places_of k xs) + counts-one (x == k)
one-more k xs x = ap length (places-push k xs x) ∙ by (x == k)
  where
    by : (t : Bool) → length (places_of k xs ++ cond t (length xs ∷ []) []) ≡ length (places_of k xs) + counts-one t
    by true = length_push (places_of k xs) (length xs)
    by false = let e = ap length (append-nil (places_of k xs)) in omega arith

all-places-length : (n : ℕ) (xs : List ℕ) → length (all_places (suc n) xs) ≡ length (all_places n xs) + length (places_of n xs)
all-places-length n xs = ap length (all-places-more n xs) ∙ length-append (all_places n xs) (places_of n xs)

not-counted : (n x : ℕ) (xs : List ℕ) → n ≤ x → length (all_places n (xs ++ x ∷ [])) ≡ length (all_places n xs)
not-counted zero x xs h = refl
not-counted (suc n) x xs h =
    let rest = not-counted n x xs (omega arith) in
    let here = one-more n xs x in
    let none = ap counts-one (ne_eqb x n (λ e. absurd (omega arith))) in
    omega (arith, all-places-length n (xs ++ x ∷ []), all-places-length n xs, rest, here, none)

counted : (n x : ℕ) (xs : List ℕ) → x < n → length (all_places n (xs ++ x ∷ [])) ≡ length (all_places n xs) + 1
counted zero x xs h = absurd (omega arith)
counted (suc n) x xs h = elim (cases_eq x n) [
  | inl same ↦
      let rest = not-counted n x xs (omega arith) in
      let here = one-more n xs x in
      let one = ap counts-one (eq-eqb x n same) in
      omega (arith, all-places-length n (xs ++ x ∷ []), all-places-length n xs, rest, here, one)
  | inr other ↦
      let rest = counted n x xs (omega arith) in
      let here = one-more n xs x in
      let none = ap counts-one (ne_eqb x n other) in
      omega (arith, all-places-length n (xs ++ x ∷ []), all-places-length n xs, rest, here, none)
]

-- each place is that of one number
pub all-places-count : (n : ℕ) (xs : List ℕ) → AreBelow n xs → length (all_places n xs) ≡ length xs
all-places-count n xs inside = by_pushes (λ ys. AreBelow n ys → length (all_places n ys) ≡ length ys) (λ _. none n) step xs inside
  where
    none : (n : ℕ) → length (all_places n []) ≡ 0
    none zero = refl
    none (suc n) = let e = all-places-length n [] in let f = none n in omega arith

    step : (ys : List ℕ) (y : ℕ) → (AreBelow n ys → length (all_places n ys) ≡ length ys) → AreBelow n (ys ++ y ∷ []) → length (all_places n (ys ++ y ∷ [])) ≡ length (ys ++ y ∷ [])
    step ys y before inside =
        let last : y < n = let h = inside (length ys) (let e = length_push ys y in omega arith) in let e = get_or_push ys y 0 (length ys) refl in omega arith in
        let front : AreBelow n ys = λ i within. let h = inside i (let e = length_push ys y in omega arith) in let e = get_or_append_left ys (y ∷ []) 0 i within in omega arith in
        omega (arith, counted n y ys last, before front, length_push ys y)

-- the rows of a front at some places
rows_at-take : (w : ℕ) (rows : List (List Value)) (places : List ℕ) → rows_at places (map (take w) rows) ≡ map (take w) (rows_at places rows)
rows_at-take w rows [] = refl
rows_at-take w rows (i ∷ places) = ap (λ r. r ∷ rows_at places (map (take w) rows)) (read w rows i) ∙ ap (λ rs. take w (get_or rows i []) ∷ rs) (rows_at-take w rows places)
  where
    take-none : (w : ℕ) → take w [] ≡ let none : List Value = [] in none
    take-none zero = refl
    take-none (suc w) = refl

    read : (w : ℕ) (rows : List (List Value)) (i : ℕ) → get_or (map (take w) rows) i [] ≡ take w (get_or rows i [])
    read w [] i = sym (take-none w)
    read w (r ∷ rows) zero = refl
    read w (r ∷ rows) (suc i) = read w rows i

-- The tables of the groups by number are those of the keys.
module _ (s : Fields) (rows : List (List Value)) (n : Numbering) (of : Numbers (map (drop (length s)) rows) n) (t : Frame) (schema : t.schema ≡ s) (front : t.rows ≡ map (take (length s)) rows) where
  abbrev w : ℕ
  w = length s

  abbrev keys : List (List Value)
  keys = map (drop w) rows

  key-rows : (k : ℕ) → k < length n.firsts.items → rows_at (places_of k n.keys.items) t.rows ≡ rows_of_key w (get_or (keys_of w rows) k []) rows
  key-rows k within =
      let key = get_or (keys_of w rows) k [] in
      let q : List Value → Bool = λ row. same_row key (drop w row) in
      let long : length n.keys.items ≡ length rows = keys-length keys n of ∙ length-map rows (drop w) in
      ap (rows_at (places_of k n.keys.items)) front
      ∙ rows_at-take w rows (places_of k n.keys.items)
      ∙ ap (λ ps. map (take w) (rows_at ps rows))
      (ap (λ m. kept (λ i. get_or n.keys.items i 0 == k) (below m)) long
      ∙ kept-below (length rows) (λ i. get_or n.keys.items i 0 == k) (λ i. q (get_or rows i [])) (λ i in_i.
      key-matches keys n of k i within (omega (arith, length-map rows (drop w))) ∙ ap (same_row key) (get_or-map (drop w) rows i [] [] in_i)))
      ∙ ap (map (take w)) (kept-at [] q rows)

  pub tables-of-keys : map (table_at t) (places_of_each (length n.firsts.items) n.keys.items) ≡ key_frames s rows
  tables-of-keys =
      map-map (table_at t) (λ k. places_of k n.keys.items) (below (length n.firsts.items))
      ∙ ap (λ m. map (λ k. table_at t (places_of k n.keys.items)) (below m)) (sym (distinct-length keys n of))
      ∙ map-places (key_frame s rows) (keys_of w rows) [] (λ k. table_at t (places_of k n.keys.items)) (λ k within.
      let e = key-rows k (omega (arith, distinct-length keys n of)) in λ j. record { schema = schema j; rows = e j })

-- rows of a table at its places fit as it does
pub table-at-fits : (t : Frame) (places : List ℕ) → FitsFrame t → All (λ i. i < length t.rows) places → FitsFrame (table_at t places)
table-at-fits t [] fits inside = tt
table-at-fits t (i ∷ places) fits inside =
    (row-fits t.rows i fits (inside 0 i (omega arith)), table-at-fits t places fits (λ k d within. inside (suc k) d (omega arith)))
  where
    row-fits : (rs : List (List Value)) (i : ℕ) → AllByRecursion (FitsKinds (kinds_of t.schema)) rs → i < length rs → FitsKinds (kinds_of t.schema) (get_or rs i [])
    row-fits [] i h within = absurd (omega arith)
    row-fits (r ∷ rs) zero h within = h.0
    row-fits (r ∷ rs) (suc i) h within = row-fits rs i h.1 (omega arith)

pub tables-fit : (t : Frame) (n : ℕ) (keys : List ℕ) → FitsFrame t → length keys ≡ length t.rows → All FitsFrame (map (table_at t) (places_of_each n keys))
tables-fit t n keys fits long k d within =
    let each = map-map (table_at t) (λ k. places_of k keys) (below n) in
    let count : k < n = omega (arith, ap length each, length-map (below n) (λ k. table_at t (places_of k keys)), length-below n) in
    subst (λ fs. FitsFrame (get_or fs k d)) (sym each)
    (subst FitsFrame (sym (at-below (λ k. table_at t (places_of k keys)) n k d count))
    (table-at-fits t (places_of k keys) fits (subst (λ m. All (λ i. i < m) (places_of k keys)) long (kept-all (length keys) (λ i. get_or keys i 0 == k)))))
