-- Rows of columns, row by row.
use Rattle.std.proofs.Common.{◌≡◌, ℕ, zero, suc, ◌<◌, ◌≤◌, List, [], ◌∷◌, ◌++◌, length, take, drop, get_or, replicate, refl, sym, ◌∙◌, ap, arith, add-one}
use Rattle.std.proofs.Math.Seq.{take-length}
use Rattle.std.specs.Prelude.{map}
use Rattle.std.specs.List.{AllByRecursion, range_with_len}
use Rattle.std.proofs.lemmas.List.{map-append, take_more}
use Rattle.ps_compute.proofs.KeyOrder.{numbers-more}
use Rattle.ps_compute.specs.Rows.{key_row}
use Rattle.ps_expr_eval.proofs.KeptRows.{length-below}
use Rattle.ps_frame.specs.Eval.{at}
use Rattle.ps_frame.specs.Frames.{AllOfHeight, all_beside, column_values}
use Rattle.ps_frame.specs.Tables.{beside, rows_of}
use Rattle.ps_frame.specs.Series.{Series}
use Rattle.ps_frame.specs.Zip.{below}
use Rattle.ps_frame.specs.declared.value.Value.TheVariants as val

module _ {A : Type 0} (d : A) where
  places : (xs : List A) (n : ℕ) → n ≤ length xs → map (λ i. get_or xs i d) (below n) ≡ take n xs
  places xs zero h = refl
  places xs (suc n) h =
      map-append (λ i. get_or xs i d) (below n) (n ∷ []) ∙ ap (λ ys. ys ++ get_or xs n d ∷ []) (places xs n (omega arith))
      ∙ sym (ap (λ m. take m xs) (sym (add-one n)) ∙ take_more xs n d (omega arith))

  -- a list is its items at the places below its length
  pub all-places : (xs : List A) (n : ℕ) → length xs ≡ n → xs ≡ map (λ i. get_or xs i d) (below n)
  all-places xs n e = sym (ap (λ m. map (λ i. get_or xs i d) (below m)) (sym e) ∙ places xs (length xs) (omega arith) ∙ take-length xs)

pub map-below : {A : Type 0} (n : ℕ) (f g : ℕ → A) → ((i : ℕ) → i < n → f i ≡ g i) → map f (below n) ≡ map g (below n)
map-below zero f g h = refl
map-below (suc n) f g h =
    map-append f (below n) (n ∷ []) ∙ ap (λ xs. xs ++ f n ∷ []) (map-below n f g (λ i l. h i (omega arith))) ∙ ap (λ x. map g (below n) ++ x ∷ []) (h n (omega arith)) ∙ sym (map-append g (below n) (n ∷ []))

pub below-range : (n : ℕ) → below n ≡ range_with_len 0 n
below-range zero = refl
below-range (suc n) = ap (λ is. is ++ n ∷ []) (below-range n) ∙ sym (numbers-more n) ∙ ap (range_with_len 0) (add-one n)

map-beside : {A B : Type 0} (f : A → B) (g : A → List B) (is : List A) → map (λ i. f i ∷ g i) is ≡ beside (map f is) (map g is)
map-beside f g [] = refl
map-beside f g (i ∷ is) = ap (λ rows. (f i ∷ g i) ∷ rows) (map-beside f g is)

map-const : {A B : Type 0} (y : B) (is : List A) → map (λ i. y) is ≡ replicate (length is) y
map-const y [] = refl
map-const y (i ∷ is) = ap (λ ys. y ∷ ys) (map-const y is)

-- row i has the values of each column there
pub rows-at : (n : ℕ) (cs : List Series) → AllOfHeight n cs → rows_of n (column_values cs) ≡ map (key_row cs) (below n)
rows-at n [] h = sym (map-const [] (below n) ∙ ap (λ m. replicate m []) (length-below n))
rows-at n (c ∷ cs) h =
    ap (λ vs. beside vs (rows_of n (column_values cs))) (all-places val.Null c.values n h.0)
    ∙ ap (beside (map (λ i. at i c.values) (below n))) (rows-at n cs h.1)
    ∙ sym (map-beside (λ i. at i c.values) (key_row cs) (below n))

pub beside-each : {A B : Type 0} (f g : A → List B) (is : List A) → all_beside (map f is) (map g is) ≡ map (λ i. f i ++ g i) is
beside-each f g [] = refl
beside-each f g (i ∷ is) = ap (λ rows. (f i ++ g i) ∷ rows) (beside-each f g is)

-- the parts of a row of two parts
pub take-front : {A : Type 0} (xs ys : List A) (n : ℕ) → length xs ≡ n → take n (xs ++ ys) ≡ xs
take-front [] ys zero e = refl
take-front [] ys (suc n) e = cc
take-front (x ∷ xs) ys zero e = cc
take-front (x ∷ xs) ys (suc n) e = ap (λ zs. x ∷ zs) (take-front xs ys n (omega arith))

pub drop-front : {A : Type 0} (xs ys : List A) (n : ℕ) → length xs ≡ n → drop n (xs ++ ys) ≡ ys
drop-front [] ys zero e = refl
drop-front [] ys (suc n) e = cc
drop-front (x ∷ xs) ys zero e = cc
drop-front (x ∷ xs) ys (suc n) e = drop-front xs ys n (omega arith)

pub get-front : {A : Type 0} (xs : List A) (y d : A) (n : ℕ) → length xs ≡ n → get_or (xs ++ y ∷ []) n d ≡ y
get-front [] y d zero e = refl
get-front [] y d (suc n) e = cc
get-front (x ∷ xs) y d zero e = cc
get-front (x ∷ xs) y d (suc n) e = get-front xs y d n (omega arith)

pub all-at : {A : Type 0} (P : A → Type 0) (xs : List A) (i : ℕ) (d : A) → i < length xs → AllByRecursion P xs → P (get_or xs i d)
all-at P [] i d h a = absurd (omega arith)
all-at P (x ∷ xs) zero d h a = a.0
all-at P (x ∷ xs) (suc i) d h a = all-at P xs i d (omega arith) a.1
