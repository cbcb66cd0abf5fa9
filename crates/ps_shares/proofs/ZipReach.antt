-- The zip of tables that show all of their columns reaches as far as the zip of all these columns.
use Rattle.std.proofs.Common.{◌≡◌, ◌⊎◌, inl, inr, ℕ, suc, ◌+◌, ◌≤◌, ◌<◌, min, Bool, true, false, not, cond, List, [], ◌∷◌, ◌++◌, length, get_or, take, refl, sym, ap, subst, ◌∙◌, arith}
use Rattle.std.specs.Prelude.{map, flat_map, fold, take_while, ◌==◌, ◌&&◌, ◌||◌}
use Rattle.std.specs.List.{AllByRecursion, list_any, prefix_len}
use Rattle.std.proofs.lemmas.Bool.{eq-eqb, eqb-true}
use Rattle.std.proofs.lemmas.Grind.{flat_map-append}
use Rattle.std.proofs.lemmas.List.{length-map, map-append}
use Rattle.ps_frame.specs.Causes.{Cell, Column, cell_causes, cell_values, is_empty}
use Rattle.ps_frame.specs.Tables.{Fields}
use Rattle.ps_frame.specs.Zip.{Extent, below, breaks_shape, broadcasts, cell_in_row, ends_early, extents, is_faulty_row, least_or, zip_causes, zip_length, zip_rows, zipped}
use Rattle.ps_meaning.specs.Cases.{all_columns, table_of}
use Rattle.ps_meaning.specs.Shape.{mild_zip}
use Rattle.ps_shares.specs.Shares.{ColumnsShowAll, IsShare, Reach, Share, ShowsAll, ZipsReach, columns_shown, tables_of}
use Rattle.ps_shares.proofs.Below.{get_below, length_below}
use Rattle.ps_shares.proofs.ClearZips.{any_ended}
use Rattle.ps_shares.proofs.FlatLength.{moving, whole_of_one}
use Rattle.ps_shares.proofs.Leaves.{least_all}
use Rattle.ps_shares.proofs.ZipShares.{AtLeast, any, at_most, ended_moves, first_of, given_extent, given_length, known_extent, known_length, moving_as, moving_cons, none_ended, row_count}

-- where a list is left at its first item that passes a test: at its end, or at that one
abbrev front : {A : Type 0} → (A → Bool) → List A → List A
front f xs = take_while (λ x. not (f x)) xs

abbrev LeftAt : {A : Type 0} → (A → Bool) → A → List A → Type 0
LeftAt f d xs = ((length (front f xs) ≡ length xs) × (list_any f xs ≡ false)) ⊎ ((f (get_or xs (length (front f xs)) d) ≡ true) × (length (front f xs) < length xs))

one_more : (n : ℕ) → 1 + n ≡ suc n
one_more n = omega arith

left_at : {A : Type 0} (f : A → Bool) (d : A) (xs : List A) → LeftAt f d xs
left_at f d [] = inl (refl, refl)
left_at f d (x ∷ xs) = by (f x) refl (left_at f d xs)
  where
    by : (b : Bool) → f x ≡ b → LeftAt f d xs → LeftAt f d (x ∷ xs)
    by true q r =
        let e : front f (x ∷ xs) ≡ [] = ap (λ b. take (cond (not b) (1 + (prefix_len (λ x. not (f x)) xs)) 0) (x ∷ xs)) q in
        let l : length (front f (x ∷ xs)) ≡ 0 = ap length e in
        inr (ap (λ n. f (get_or (x ∷ xs) n d)) l ∙ q, omega arith)
    by false q (inl r) =
        let e : front f (x ∷ xs) ≡ x ∷ front f xs = ap (λ b. take (cond (not b) (1 + prefix_len (λ x. not (f x)) xs) 0) (x ∷ xs)) q ∙ ap (λ n. take n (x ∷ xs)) (one_more (prefix_len (λ x. not (f x)) xs)) in
        inl (ap length e ∙ ap suc r.0, ap (λ b. b || list_any f xs) q ∙ r.1)
    by false q (inr r) =
        let e : front f (x ∷ xs) ≡ x ∷ front f xs = ap (λ b. take (cond (not b) (1 + prefix_len (λ x. not (f x)) xs) 0) (x ∷ xs)) q ∙ ap (λ n. take n (x ∷ xs)) (one_more (prefix_len (λ x. not (f x)) xs)) in
        let l : length (front f (x ∷ xs)) ≡ suc (length (front f xs)) = ap length e in
        let lt = r.1 in
        inr (ap (λ n. f (get_or (x ∷ xs) n d)) l ∙ r.0, omega arith)

-- the zip of columns itself
module _ (at : ℕ) (s : Fields) (cs : List Column) where
  abbrev n : ℕ
  n = zip_length false (extents cs)

  abbrev rows : List (List Cell)
  rows = zip_rows false n cs

  rows_count : length rows ≡ n
  rows_count = length-map (below n) (λ i. map (cell_in_row false i) cs) ∙ length_below n

  own_count : length (zipped false at cs).rows ≡ length (front is_faulty_row rows)
  own_count = length-map (front is_faulty_row rows) cell_values

  shows_all : LeftAt is_faulty_row [] rows → ShowsAll (table_of s (λ rows. rows) (zipped false at cs)) cs
  shows_all (inl (all, none)) =
      record {
        reach = inl (own_count ∙ all ∙ rows_count);
        whole = λ e l. ap (λ b. cond (b || list_any is_faulty_row rows) (zip_causes false at cs) []) e ∙ ap (λ b. cond b (zip_causes false at cs) []) none;
      }
  shows_all (inr (here, lt)) =
      let k = length (front is_faulty_row rows) in
      let c = own_count in
      let r = rows_count in
      let k-lt : k < n = omega arith in
      let row : get_or rows k [] ≡ map (cell_in_row false k) cs = get_below (λ i. map (cell_in_row false i) cs) n k [] k-lt in
      record {
        reach = inr (ap (λ i. is_faulty_row (map (cell_in_row false i) cs)) c ∙ sym (ap is_faulty_row row) ∙ here);
        whole = λ e l. absurd (omega arith);
      }

pub columns_show_all : ColumnsShowAll
columns_show_all at s cs = shows_all at s cs (left_at is_faulty_row [] (zip_rows false (zip_length false (extents cs)) cs))

-- the least of some numbers is one of them
abbrev Among : ℕ → List ℕ → Type 0
Among n [] = ⊥
Among n (m ∷ ms) = (m ≡ n) ⊎ Among n ms

least_among : (a : ℕ) (ns : List ℕ) → Among (fold min a ns) (a ∷ ns)
least_among a [] = inl refl
least_among a (n ∷ ns) = by (min_is a n) (least_among (min a n) ns)
  where
    min_is : (a n : ℕ) → (min a n ≡ a) ⊎ (min a n ≡ n)
    min_is a n = grind arith

    by : (min a n ≡ a) ⊎ (min a n ≡ n) → Among (fold min (min a n) ns) (min a n ∷ ns) → Among (fold min (min a n) ns) (a ∷ n ∷ ns)
    by (inl e) (inl h) = inl (sym e ∙ h)
    by (inr e) (inl h) = inr (inl (sym e ∙ h))
    by e (inr h) = inr (inr h)

-- a row that holds a faulty cell in a part of it is faulty
not_empty : {A : Type 0} (xs ys : List A) → not (is_empty xs) ≡ true → not (is_empty (xs ++ ys)) ≡ true
not_empty [] ys h = cc
not_empty (x ∷ xs) ys h = refl

not_empty_last : {A : Type 0} (xs ys : List A) → not (is_empty ys) ≡ true → not (is_empty (xs ++ ys)) ≡ true
not_empty_last [] ys h = h
not_empty_last (x ∷ xs) ys h = refl

faulty_first : (us vs : List Cell) → is_faulty_row us ≡ true → is_faulty_row (us ++ vs) ≡ true
faulty_first us vs h = ap (λ cs. not (is_empty cs)) (flat_map-append cell_causes us vs) ∙ not_empty (flat_map cell_causes us) (flat_map cell_causes vs) h

faulty_last : (us vs : List Cell) → is_faulty_row vs ≡ true → is_faulty_row (us ++ vs) ≡ true
faulty_last us vs h = ap (λ cs. not (is_empty cs)) (flat_map-append cell_causes us vs) ∙ not_empty_last (flat_map cell_causes us) (flat_map cell_causes vs) h

abbrev IsFaultyAt : ℕ → List Column → Type 0
IsFaultyAt i cs = is_faulty_row (map (cell_in_row false i) cs) ≡ true

-- A table that ends where the zip of tables does, before that of all columns, ends before a faulty row.
short_share : (h : Share) → ShowsAll h.from h.columns → (z n : ℕ) → z < n → length h.from.rows ≡ z → broadcasts false (given_extent h) ≡ false → (broadcasts false (known_extent h) ≡ false → n ≤ (known_extent h).len) → IsFaultyAt z h.columns
short_share h all z n lt e moves far = by all.reach
  where
    whole : broadcasts false (known_extent h) ≡ true → length h.from.rows ≡ (known_extent h).len → ⊥
    whole still l =
        let w = whole_of_one (known_extent h).ended ((known_extent h).len == 1) still in
        let v : ends_early false h.columns ≡ false = sym (ap (λ b. b || breaks_shape false (extents h.columns)) (any_ended h.columns)) ∙ w.0 in
        let b : h.from.broken ≡ [] = all.whole v l in
        let one : length h.from.rows ≡ 1 = l ∙ eqb-true (known_extent h).len 1 w.1 in
        let yes : broadcasts false (given_extent h) ≡ true = ap (λ cs. not (not (is_empty cs)) && (length h.from.rows == 1)) b ∙ eq-eqb (length h.from.rows) 1 one in
        let no : true ≡ false = sym yes ∙ moves in
        cc

    cases : (t : Bool) → broadcasts false (known_extent h) ≡ t → length h.from.rows ≡ (known_extent h).len → ⊥
    cases true still l = whole still l
    cases false q l = let le = far q in omega arith

    by : Reach (length h.from.rows) h.columns → IsFaultyAt z h.columns
    by (inl l) = absurd (cases (broadcasts false (known_extent h)) refl l)
    by (inr f) = ap (λ i. is_faulty_row (map (cell_in_row false i) h.columns)) (sym e) ∙ f

short_step : (h : Share) (hs : List Share) (z n : ℕ) → z < n → ShowsAll h.from h.columns → (t : Bool) → broadcasts false (given_extent h) ≡ t → Among z (moving (map given_extent (h ∷ hs)))
    → ((broadcasts false (known_extent h) ≡ false → n ≤ (known_extent h).len)) → (Among z (moving (map given_extent hs)) → IsFaultyAt z (columns_shown hs)) → IsFaultyAt z (columns_shown (h ∷ hs))
short_step h hs z n lt all t q among far rest = by t q (subst (Among z) (moving_cons (given_extent h) (map given_extent hs) t q) among)
  where
    over : IsFaultyAt z (columns_shown hs) → IsFaultyAt z (columns_shown (h ∷ hs))
    over f = ap is_faulty_row (map-append (cell_in_row false z) h.columns (columns_shown hs)) ∙ faulty_last (map (cell_in_row false z) h.columns) (map (cell_in_row false z) (columns_shown hs)) f

    here : IsFaultyAt z h.columns → IsFaultyAt z (columns_shown (h ∷ hs))
    here f = ap is_faulty_row (map-append (cell_in_row false z) h.columns (columns_shown hs)) ∙ faulty_first (map (cell_in_row false z) h.columns) (map (cell_in_row false z) (columns_shown hs)) f

    by : (t : Bool) → broadcasts false (given_extent h) ≡ t → Among z (moving_as t (given_extent h) (map given_extent hs)) → IsFaultyAt z (columns_shown (h ∷ hs))
    by true q a = over (rest a)
    by false q (inl e) = here (short_share h all z n lt e q far)
    by false q (inr a) = over (rest a)

short : (hs : List Share) → AllByRecursion (λ (h : Share). ShowsAll h.from h.columns) hs → (z n : ℕ) → z < n → AtLeast n (map known_extent hs) → Among z (moving (map given_extent hs)) → IsFaultyAt z (columns_shown hs)
short [] all z n lt far a = absurd a
short (h ∷ hs) all z n lt far a =
    let f = first_of n (known_extent h) (map known_extent hs) (broadcasts false (known_extent h)) refl far in
    short_step h hs z n lt all.0 (broadcasts false (given_extent h)) refl a f.0 (short hs all.1 z n lt f.1)

-- where something is ended, something doesn't broadcast
some_moving : (es : List Extent) → any es ≡ true → moving es ≡ [] → ⊥
some_moving [] h none = cc
some_moving (e ∷ es) h none = by e.ended refl (some_moving es)
  where
    rest : (t : Bool) → broadcasts false e ≡ t → (moving es ≡ [] → ⊥) → ⊥
    rest true q more = more (sym (moving_cons e es true q) ∙ none)
    rest false q more = let w : e.len ∷ moving es ≡ [] = sym (moving_cons e es false q) ∙ none in cc

    by : (b : Bool) → e.ended ≡ b → (any es ≡ true → moving es ≡ [] → ⊥) → ⊥
    by true q more = let w : e.len ∷ moving es ≡ [] = sym (moving_cons e es false (ended_moves e q)) ∙ none in cc
    by false q more = rest (broadcasts false e) refl (more (sym (ap (λ b. b || any es) q) ∙ h))

least_member : (ns : List ℕ) → (ns ≡ [] → ⊥) → Among (least_or 1 ns) ns
least_member [] some = absurd (some refl)
least_member (n ∷ ns) some = least_among n ns

module _ (at : ℕ) (s : Fields) (hs : List Share) (all : AllByRecursion IsShare hs) (full : AllByRecursion (λ (h : Share). ShowsAll h.from h.columns) hs) where
  abbrev given : ℕ
  given = zip_length false (map given_extent hs)

  abbrev known : ℕ
  known = zip_length false (map known_extent hs)

  abbrev found : ℕ
  found = length (mild_zip at (all_columns (tables_of hs))).rows

  count : found ≡ given
  count = row_count at s hs all ∙ given_length at s hs all

  before_fault : (t : Bool) → any (map given_extent hs) ≡ t → ((given ≡ known) → ⊥) → IsFaultyAt given (columns_shown hs)
  before_fault false a differ = absurd (differ (ap (zip_length false) (none_ended hs all a)))
  before_fault true a differ =
      let le = at_most hs all true a in
      let lt : given < known = omega arith in
      short hs full given known lt (least_all known 1 (moving (map known_extent hs)) (omega arith)) (least_member (moving (map given_extent hs)) (some_moving (map given_extent hs) a))

  reaches : (b : Bool) → (given == known) ≡ b → Reach found (columns_shown hs)
  reaches true q = inl (count ∙ eqb-true given known q ∙ sym (known_length at s hs all))
  reaches false q =
      inr (ap (λ i. is_faulty_row (map (cell_in_row false i) (columns_shown hs))) count ∙ before_fault (any (map given_extent hs)) refl (λ e. let w : true ≡ false = sym (eq-eqb given known e) ∙ q in cc))

pub zips_reach : ZipsReach
zips_reach at s hs all full = reaches at s hs all full (zip_length false (map given_extent hs) == zip_length false (map known_extent hs)) refl
