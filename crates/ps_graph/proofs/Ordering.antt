-- Numbers in order: those from 0 on, each once.
use Rattle.std.proofs.Common.{◌≡◌, ℕ, zero, suc, ◌+◌, ◌<◌, ◌≤◌, Bool, true, false, cond, List, [], ◌∷◌, ◌++◌, length, refl, sym, ap, subst, ◌∙◌, inl, inr, arith}
use Rattle.std.specs.Prelude.{count_by, map, nat_eq, nat_lt}
use Rattle.std.specs.List.{filter as kept}
use Rattle.std.proofs.lemmas.Bool.{cases_eq}
use Rattle.std.proofs.lemmas.Bool.Decides.{nat_tests}
use Rattle.std.proofs.lemmas.List.Sums.{length-filter}
use Rattle.ps_frame.specs.Sorting.{in_order, insert_in_order}
use Rattle.ps_frame.specs.Zip.{below}
use Rattle.ps_settle.proofs.Ends.{other_number, same_number}
use Rattle.ps_settle.proofs.Members.{kept-map, length_map}
use Rattle.ps_graph.proofs.Places.{length_in_order}

-- so many numbers from the first on
pub from : (first count : ℕ) → List ℕ
from first zero = []
from first (suc k) = first ∷ from (first + 1) k

from-more : (b k : ℕ) → from b (suc k) ≡ from b k ++ (b + k) ∷ []
unfolding from
from-more b zero = let e : b ≡ b + 0 = omega arith in ap (λ n. n ∷ []) e
from-more b (suc k) = let e : b + 1 + k ≡ b + suc k = omega arith in ap (λ l. b ∷ l) (from-more (b + 1) k ∙ ap (λ n. from (b + 1) k ++ n ∷ []) e)

pub below-from : (k : ℕ) → below k ≡ from 0 k
unfolding from
below-from zero = refl
below-from (suc k) = let e : k ≡ 0 + k = omega arith in ap (λ l. l ++ k ∷ []) (below-from k) ∙ ap (λ n. from 0 k ++ n ∷ []) e ∙ sym (from-more 0 k)

insert-from : (b k : ℕ) → insert_in_order nat_lt b (from (b + 1) k) ≡ b ∷ from (b + 1) k
unfolding from
insert-from b zero = refl
insert-from b (suc k) = let later : nat_lt (b + 1) b ≡ false = grind (arith, nat_tests) in rw later refl

in_order-from : (b k : ℕ) → in_order nat_lt (from b k) ≡ from b k
unfolding from
in_order-from b zero = refl
in_order-from b (suc k) = ap (insert_in_order nat_lt b) (in_order-from (b + 1) k) ∙ insert-from b k

-- numbers in order stay
pub in_order-below : (k : ℕ) → in_order nat_lt (below k) ≡ below k
in_order-below k = ap (in_order nat_lt) (below-from k) ∙ in_order-from 0 k ∙ sym (below-from k)

-- a sort keeps how many items pass a test
kept-insert : {A : Type 0} (less : A → A → Bool) (test : A → Bool) (x : A) (ys : List A) → length (kept test (insert_in_order less x ys)) ≡ length (kept test (x ∷ ys))
kept-insert less test x [] = refl
kept-insert {A} less test x (y ∷ ys) = by (less y x) (kept-insert less test x ys)
  where
    swap : (a b : Bool) (ks ls : List A) → length ks ≡ length (cond b (x ∷ ls) ls) → length (cond a (y ∷ ks) ks) ≡ length (cond b (x ∷ cond a (y ∷ ls) ls) (cond a (y ∷ ls) ls))
    swap true true ks ls e = ap suc e
    swap true false ks ls e = ap suc e
    swap false true ks ls e = e
    swap false false ks ls e = e

    by : (b : Bool) → length (kept test (insert_in_order less x ys)) ≡ length (kept test (x ∷ ys)) → length (kept test (cond b (y ∷ insert_in_order less x ys) (x ∷ y ∷ ys))) ≡ length (kept test (x ∷ y ∷ ys))
    by true rest = swap (test y) (test x) (kept test (insert_in_order less x ys)) (kept test ys) rest
    by false rest = refl

kept-in_order : {A : Type 0} (less : A → A → Bool) (test : A → Bool) (xs : List A) → length (kept test (in_order less xs)) ≡ length (kept test xs)
kept-in_order less test [] = refl
kept-in_order {A} less test (x ∷ xs) = kept-insert less test x (in_order less xs) ∙ by (test x) (kept test (in_order less xs)) (kept test xs) (kept-in_order less test xs)
  where
    by : (b : Bool) (ks ls : List A) → length ks ≡ length ls → length (cond b (x ∷ ks) ks) ≡ length (cond b (x ∷ ls) ls)
    by true ks ls e = ap suc e
    by false ks ls e = e

pub count-in_order : {A : Type 0} (less : A → A → Bool) (test : A → Bool) (xs : List A) → count_by test (in_order less xs) ≡ count_by test xs
count-in_order less test xs = sym (length-filter test (in_order less xs)) ∙ kept-in_order less test xs ∙ length-filter test xs

pub count-map : {A B : Type 0} (f : A → B) (test : B → Bool) (xs : List A) → count_by test (map f xs) ≡ count_by (λ x. test (f x)) xs
count-map f test xs = sym (length-filter test (map f xs)) ∙ ap length (kept-map test f xs) ∙ length_map f (kept (λ x. test (f x)) xs) ∙ length-filter (λ x. test (f x)) xs

-- no number of the list is below the first
abbrev Ascends : ℕ → List ℕ → Type 0
Ascends b [] = Unit {0}
Ascends b (x ∷ xs) = (b ≤ x) × Ascends x xs

insert_ascends : (b x : ℕ) (ys : List ℕ) → b ≤ x → Ascends b ys → Ascends b (insert_in_order nat_lt x ys)
insert_ascends b x [] h a = (h, tt)
insert_ascends b x (y ∷ ys) h a = by (nat_lt y x) refl (λ l. insert_ascends y x ys l a.1)
  where
    by : (t : Bool) → nat_lt y x ≡ t → (y ≤ x → Ascends y (insert_in_order nat_lt x ys)) → Ascends b (insert_in_order nat_lt x (y ∷ ys))
    by true e rest = rw e (a.0, rest (let l : y < x = grind (arith, nat_tests) in omega (arith, l)))
    by false e rest = let l : x ≤ y = grind (arith, nat_tests) in rw e (h, (l, a.1))

in_order_ascends : (xs : List ℕ) → Ascends 0 (in_order nat_lt xs)
in_order_ascends [] = tt
in_order_ascends (x ∷ xs) = insert_ascends 0 x (in_order nat_lt xs) (omega arith) (in_order_ascends xs)

-- how often a number stands in a list
abbrev times : ℕ → List ℕ → ℕ
times k xs = length (kept (λ x. nat_eq x k) xs)

times-here : (k x : ℕ) (xs : List ℕ) → x ≡ k → times k (x ∷ xs) ≡ suc (times k xs)
times-here k x xs e = let t = same_number x k e in rw t refl

times-other : (k x : ℕ) (xs : List ℕ) → (x ≡ k → ⊥) → times k (x ∷ xs) ≡ times k xs
times-other k x xs h = let t = other_number x k h in rw t refl

none_below : (b k : ℕ) (xs : List ℕ) → Ascends b xs → k < b → times k xs ≡ 0
none_below b k [] a h = refl
none_below b k (x ∷ xs) a h =
    let up = a.0 in
    let rest = none_below x k xs a.1 (omega (arith, up, h)) in
    let first = times-other k x xs (λ e. omega (arith, e, up, h)) in
    omega (arith, first, rest)

raised : (b : ℕ) (xs : List ℕ) → Ascends b xs → times b xs ≡ 0 → Ascends (b + 1) xs
raised b [] a none = tt
raised b (x ∷ xs) a none = elim (cases_eq x b) [
  | inl is ↦ let first = times-here b x xs is in absurd (omega (arith, first, none))
  | inr other ↦ (let up = a.0 in by up other, a.1)
]
  where
    by : b ≤ x → (x ≡ b → ⊥) → b + 1 ≤ x
    by up other = omega (arith, up, other)

all_once : (b : ℕ) (xs : List ℕ) → Ascends b xs → ((k : ℕ) → b ≤ k → k < b + length xs → times k xs ≡ 1) → xs ≡ from b (length xs)
unfolding from
all_once b [] a once = refl
all_once b (x ∷ xs) a once = elim (cases_eq x b) [
  | inl is ↦
      let first = times-here b x xs is in
      let one = once b (omega arith) (omega arith) in
      let none : times b xs ≡ 0 = omega (arith, first, one) in
      let up : Ascends b xs = subst (λ n. Ascends n xs) is a.1 in
      let rest : xs ≡ from (b + 1) (length xs) =
      all_once (b + 1) xs (raised b xs up none) (λ k lo hi. let other = times-other k x xs (λ e. omega (arith, e, is, lo)) in let here = once k (omega (arith, lo)) (omega (arith, hi)) in omega (arith, other, here)) in
      λ i. is i ∷ rest i
  | inr other ↦
      let up = a.0 in
      let first = times-other b x xs other in
      let none = none_below x b xs a.1 (omega (arith, up, other)) in
      let one = once b (omega arith) (omega arith) in
      absurd (omega (arith, first, none, one))
]

-- numbers of which each below their count stands once are, in order, those from 0 on
pub each_once : (xs : List ℕ) → ((k : ℕ) → k < length xs → count_by (λ x. nat_eq x k) xs ≡ 1) → in_order nat_lt xs ≡ below (length xs)
each_once xs once =
    let long = length_in_order nat_lt xs in
    all_once 0 (in_order nat_lt xs) (in_order_ascends xs) (λ k lo hi. kept-in_order nat_lt (λ x. nat_eq x k) xs ∙ length-filter (λ x. nat_eq x k) xs ∙ once k (omega (arith, hi, long))) ∙ ap (from 0) long ∙ sym (below-from (length xs))
