-- Columns that no fault ended and whose lengths agree, in rows.
use Rattle.std.proofs.Common.{◌≡◌, ℕ, zero, suc, min, List, [], ◌∷◌, length, replicate, Bool, true, false, refl, subst, sym, ◌∙◌, ap, inl, inr, arith, eqb→eq}
use Rattle.std.proofs.Math.Numerals.{one-add}
use Rattle.std.specs.Prelude.{◌⊎◌, map, filter, fold, take_while, not, ◌&&◌, ◌||◌, ◌==◌, if◌then◌else◌}
use Rattle.std.specs.List.{AllByRecursion, AllZip, list_all, list_any}
use Rattle.std.proofs.lemmas.List.{length-append, length-map}
use Rattle.ps_frame.proofs.Lists.{both}
use Rattle.ps_frame.specs.Causes.{Cell, Column, cell_values, is_empty, value}
use Rattle.ps_frame.specs.Tables.{beside, rows_of}
use Rattle.ps_frame.specs.Zip.{Extent, all_same, below, breaks_shape, broadcasts, cell_in_row, ends_early, extents, is_faulty_row, least_or, lengths_where, open_lengths, row_causes, rows_before_fault, zip_length, zip_rows, zipped}
use Rattle.ps_frame.specs.declared.value.Value.{Value}

-- ---- the lengths

-- an extent that is as long as a zip, or one that broadcasts
abbrev pub Fills : ℕ → Extent → Type 0
Fills n x = (x.len ≡ n) ⊎ (x.len ≡ 1)

abbrev IsNot1 : ℕ → Type 0
IsNot1 n = (n == 1) ≡ false

fold-same : (n : ℕ) (ns : List ℕ) → list_all (λ m. m == n) ns ≡ true → fold min n ns ≡ n
fold-same n [] e = refl
fold-same n (m ∷ ns) e =
    let two = both (m == n) (list_all (λ m. m == n) ns) e in
    let same : m ≡ n = eqb→eq m n (rw two.0 tt) in
    let least : min n m ≡ n = omega arith in
    ap (λ k. fold min k ns) least ∙ fold-same n ns two.1

all-equal : (n : ℕ) (ns : List ℕ) → list_all (λ m. m == n) ns ≡ true → AllByRecursion (λ m. m ≡ n) ns
all-equal n [] e = tt
all-equal n (m ∷ ns) e = let two = both (m == n) (list_all (λ m. m == n) ns) e in (eqb→eq m n (rw two.0 tt), all-equal n ns two.1)

same-least : (ns : List ℕ) → all_same ns ≡ true → AllByRecursion (λ m. m ≡ least_or 1 ns) ns
same-least [] e = tt
same-least (n ∷ ns) e =
    let least = fold-same n ns e in
    (sym least, subst (λ k. AllByRecursion (λ m. m ≡ k) ns) (sym least) (all-equal n ns e))

-- where none is ended, what doesn't broadcast is what hasn't length 1
abbrev AreWhole : List Extent → Type 0
AreWhole xs = AllByRecursion (λ (x : Extent). x.ended ≡ false) xs

opens : (xs : List Extent) → AreWhole xs → lengths_where (λ x. not (broadcasts false x)) xs ≡ open_lengths xs
opens [] h = refl
opens (x ∷ xs) h = by x.ended h.0 (x.len == 1) (opens xs h.1)
  where
    by : (ended : Bool) → ended ≡ false → (one : Bool) → lengths_where (λ x. not (broadcasts false x)) xs ≡ open_lengths xs
        → map (λ (e : Extent). e.len) (if not (true && (not ended && one)) then x ∷ filter (λ x. not (broadcasts false x)) xs else filter (λ x. not (broadcasts false x)) xs)
        ≡ map (λ (e : Extent). e.len) (if not ended && not one then x ∷ filter (λ e. not e.ended && not (e.len == 1)) xs else filter (λ e. not e.ended && not (e.len == 1)) xs)
    by true e one rest = cc
    by false e true rest = rest
    by false e false rest = ap (λ ns. x.len ∷ ns) rest

open-fills : (n : ℕ) (xs : List Extent) → AreWhole xs → AllByRecursion (λ m. m ≡ n) (open_lengths xs) → AllByRecursion (Fills n) xs
open-fills n [] h a = tt
open-fills n (x ∷ xs) h a = by x.ended h.0 (x.len == 1) refl a (open-fills n xs h.1)
  where
    by : (ended : Bool) → ended ≡ false → (one : Bool) → (x.len == 1) ≡ one
        → AllByRecursion (λ m. m ≡ n) (map (λ (e : Extent). e.len) (if not ended && not one then x ∷ filter (λ e. not e.ended && not (e.len == 1)) xs else filter (λ e. not e.ended && not (e.len == 1)) xs))
        → (AllByRecursion (λ m. m ≡ n) (open_lengths xs) → AllByRecursion (Fills n) xs) → AllByRecursion (Fills n) (x ∷ xs)
    by true e one q a rest = cc
    by false e true q a rest = (inr (eqb→eq x.len 1 (rw q tt)), rest a)
    by false e false q a rest = (inl a.0, rest a.1)

or-parts : (a b : Bool) → (not a || b) ≡ false → a ≡ true
or-parts true b e = refl
or-parts false b e = cc

-- where the lengths of whole columns agree, each is that of the zip, or 1
pub whole-fills : (xs : List Extent) → breaks_shape false xs ≡ false → AreWhole xs → AllByRecursion (Fills (zip_length false xs)) xs
whole-fills xs e h =
    let same : all_same (open_lengths xs) ≡ true = or-parts (all_same (open_lengths xs)) _ e in
    open-fills (zip_length false xs) xs h
    (subst (λ ns. AllByRecursion (λ m. m ≡ least_or 1 ns) (open_lengths xs)) (sym (opens xs h)) (same-least (open_lengths xs) same))

-- ---- the rows

length-below : (n : ℕ) → length (below n) ≡ n
length-below zero = refl
length-below (suc n) = let e = length-below n in let f = length-append (below n) (n ∷ []) in omega arith

map-beside : {A B : Type 0} (f : A → B) (g : A → List B) (is : List A) → map (λ i. f i ∷ g i) is ≡ beside (map f is) (map g is)
map-beside f g [] = refl
map-beside f g (i ∷ is) = ap (λ rows. (f i ∷ g i) ∷ rows) (map-beside f g is)

beside-map : {A B : Type 0} (f : A → B) (xs : List A) (rows : List (List A)) → beside (map f xs) (map (map f) rows) ≡ map (map f) (beside xs rows)
beside-map f [] rows = refl
beside-map f (x ∷ xs) [] = refl
beside-map f (x ∷ xs) (row ∷ rows) = ap (λ r. (f x ∷ map f row) ∷ r) (beside-map f xs rows)

pub map-replicate : {A B : Type 0} (f : A → B) (n : ℕ) (x : A) → map f (replicate n x) ≡ replicate n (f x)
map-replicate f zero x = refl
map-replicate f (suc n) x = ap (λ xs. f x ∷ xs) (map-replicate f n x)

pub map-const : {A B : Type 0} (y : B) (is : List A) → map (λ i. y) is ≡ replicate (length is) y
map-const y [] = refl
map-const y (i ∷ is) = ap (λ ys. y ∷ ys) (map-const y is)

-- the cells that a column gives to the first n rows
abbrev pub first_cells : ℕ → Column → List Cell
first_cells n c = map (λ i. cell_in_row false i c) (below n)

-- these values are what a column gives to the first n rows
abbrev pub Shows : ℕ → Column → List Value → Type 0
Shows n c vs = first_cells n c ≡ map value vs

pub shown-length : (n : ℕ) (c : Column) (vs : List Value) → Shows n c vs → length vs ≡ n
shown-length n c vs e = sym (length-map vs value) ∙ ap length (sym e) ∙ length-map (below n) (λ i. cell_in_row false i c) ∙ length-below n

rows-shown : (n : ℕ) (cs : List Column) (vss : List (List Value)) → AllZip (Shows n) cs vss → zip_rows false n cs ≡ map (map value) (rows_of n vss)
rows-shown n [] [] k = map-const [] (below n) ∙ ap (λ m. replicate m []) (length-below n) ∙ sym (map-replicate (map value) n [])
rows-shown n [] (vs ∷ vss) k = absurd k
rows-shown n (c ∷ cs) [] k = absurd k
rows-shown n (c ∷ cs) (vs ∷ vss) k =
    map-beside (λ i. cell_in_row false i c) (λ i. map (cell_in_row false i) cs) (below n)
    ∙ ap (λ (cells : List Cell). beside cells (zip_rows false n cs)) k.0
    ∙ ap (beside (map value vs)) (rows-shown n cs vss k.1)
    ∙ beside-map value vs (rows_of n vss)

no-causes : (vs : List Value) → row_causes (map value vs) ≡ []
no-causes [] = refl
no-causes (v ∷ vs) = no-causes vs

values-back : (vs : List Value) → cell_values (map value vs) ≡ vs
values-back [] = refl
values-back (v ∷ vs) = ap (λ ws. v ∷ ws) (values-back vs)

faultless : (vs : List Value) → is_faulty_row (map value vs) ≡ false
faultless vs = ap (λ xs. not (is_empty xs)) (no-causes vs)

take_while-pass : {A : Type 0} (p : A → Bool) (x : A) (xs : List A) → p x ≡ true → take_while p (x ∷ xs) ≡ x ∷ take_while p xs
take_while-pass p x xs e = rw (e, one-add) refl

before-none : (rows : List (List Value)) → rows_before_fault (map (map value) rows) ≡ rows
before-none [] = refl
before-none (row ∷ rows) =
    ap (map cell_values) (take_while-pass (λ r. not (is_faulty_row r)) (map value row) (map (map value) rows) (ap not (faultless row)))
    ∙ ap (λ vs. vs ∷ rows_before_fault (map (map value) rows)) (values-back row) ∙ ap (λ rs. row ∷ rs) (before-none rows)

none-faulty : (rows : List (List Value)) → list_any is_faulty_row (map (map value) rows) ≡ false
none-faulty [] = refl
none-faulty (row ∷ rows) = ap (λ b. b || list_any is_faulty_row (map (map value) rows)) (faultless row) ∙ none-faulty rows

-- the rows of a zip that nothing ends early and that has no faulty cell
pub record IsWhole (at n : ℕ) (cs : List Column) (vss : List (List Value)) : Type 0 where
  pub rows : (zipped false at cs).rows ≡ rows_of n vss
  pub whole : (zipped false at cs).broken ≡ []

pub whole-zip : (at n : ℕ) (cs : List Column) (vss : List (List Value)) → ends_early false cs ≡ false → n ≡ zip_length false (extents cs) → AllZip (Shows n) cs vss → IsWhole at n cs vss
whole-zip at n cs vss e len k =
    let shown = sym (ap (λ m. zip_rows false m cs) len) ∙ rows-shown n cs vss k in
    let none = ap (list_any is_faulty_row) shown ∙ none-faulty (rows_of n vss) in
    record {
      rows = ap rows_before_fault shown ∙ before-none (rows_of n vss);
      whole = rw (e, none) refl;
    }
