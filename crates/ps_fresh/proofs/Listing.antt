-- Lists that are gone over from the front, and numbers that rise.
use Rattle.std.proofs.Common.{◌≡◌, ℕ, zero, suc, ◌+◌, ◌<◌, List, [], ◌∷◌, ◌++◌, length, take, get_or, sym, ap, ◌∙◌, arith, add-one}
use Rattle.std.specs.Prelude.{Some, flat_map, slice_get}
use Rattle.std.specs.List.Sorted.{IsStrictlyIncreasing, IsStrictlySortedBy}
use Rattle.std.specs.Ordering.{nat_cmp}
use Rattle.std.specs.declared.cmp.Ordering.TheVariants as ordering
use Rattle.std.proofs.lemmas.Bool.Decides.{nat_tests}
use Rattle.std.proofs.lemmas.List.{append-nil, append_assoc}
use Rattle.std.proofs.lemmas.Option.{same_Some}

-- one more item of a front
more : {A : Type 0} (xs : List A) (i : ℕ) (x : A) → slice_get xs i ≡ Some x → take (suc i) xs ≡ take i xs ++ x ∷ []
more [] i x e = cc
more (y ∷ xs) zero x e = ap (λ z. z ∷ []) (same_Some y x e)
more (y ∷ xs) (suc i) x e = ap (λ zs. y ∷ zs) (more xs i x e)

pub one_more : {A : Type 0} (xs : List A) (i : ℕ) (x : A) → slice_get xs i ≡ Some x → take (i + 1) xs ≡ take i xs ++ x ∷ []
one_more xs i x e = rw add-one (more xs i x e)

-- and of what each item of it gives
flat_append : {A B : Type 0} (f : A → List B) (xs : List A) (x : A) → flat_map f (xs ++ x ∷ []) ≡ flat_map f xs ++ f x
flat_append f [] x = append-nil (f x)
flat_append f (y ∷ xs) x = ap (λ zs. f y ++ zs) (flat_append f xs x) ∙ sym (append_assoc (f y) (flat_map f xs) (f x))

pub flat_more : {A B : Type 0} (f : A → List B) (xs : List A) (i : ℕ) (x : A) → slice_get xs i ≡ Some x → flat_map f (take (i + 1) xs) ≡ flat_map f (take i xs) ++ f x
flat_more f xs i x e = ap (flat_map f) (one_more xs i x e) ∙ flat_append f (take i xs) x

below : (x y : ℕ) → nat_cmp x y ≡ ordering.Less → x < y
below x y h = grind (arith, nat_tests)

rises : (xs : List ℕ) → IsStrictlySortedBy nat_cmp xs → (k : ℕ) → suc k < length xs → get_or xs k 0 < get_or xs (suc k) 0
unfolding IsStrictlySortedBy
rises [] h k lt = absurd (omega arith)
rises (x ∷ []) h k lt = absurd (omega arith)
rises (x ∷ y ∷ xs) h zero lt = below x y h.0.0
rises (x ∷ y ∷ xs) h (suc k) lt = rises (y ∷ xs) h.1 k (omega arith)

-- the keys of a set rise
pub keys_rise : (xs : List ℕ) → IsStrictlySortedBy nat_cmp xs → IsStrictlyIncreasing xs
keys_rise xs h k lt = rw add-one (rises xs h k (omega arith))
