-- Lists, item by item.
use Rattle.std.proofs.Common.{◌≡◌, ℕ, zero, suc, ◌+◌, ◌<◌, ◌≤◌, List, [], ◌∷◌, ◌++◌, None, Some, length, take, refl, ap, subst, arith}
use Rattle.std.specs.Prelude.{map, slice_get}
use Rattle.std.specs.List.{AllZip}

pub append-nil : {A : Type 0} (xs : List A) → xs ++ [] ≡ xs
append-nil [] = refl
append-nil (x ∷ xs) = ap (λ ys. x ∷ ys) (append-nil xs)

pub map-length : {A B : Type 0} (g : A → B) (xs : List A) → length (map g xs) ≡ length xs
map-length g [] = refl
map-length g (x ∷ xs) = ap suc (map-length g xs)

pub take-one : {A : Type 0} (xs : List A) (k : ℕ) (x : A) → slice_get xs k ≡ Some x → take (k + 1) xs ≡ take k xs ++ x ∷ []
take-one [] k x e = cc
take-one (y ∷ xs) zero x e = let is : y ≡ x = cc in ap (λ z. z ∷ []) is
take-one (y ∷ xs) (suc k) x e =
    let P : ℕ → Type 0 = λ m. take m (y ∷ xs) ≡ y ∷ (take k xs ++ x ∷ []) in
    let next : suc (k + 1) ≡ suc k + 1 = omega arith in
    subst P next (ap (λ zs. y ∷ zs) (take-one xs k x e))

pub take-all : {A : Type 0} (xs : List A) (k : ℕ) → length xs ≤ k → take k xs ≡ xs
take-all [] zero l = refl
take-all [] (suc k) l = refl
take-all (x ∷ xs) zero l = absurd (omega (arith, l))
take-all (x ∷ xs) (suc k) l = ap (λ ys. x ∷ ys) (take-all xs k (omega (arith, l)))

pub within : {A : Type 0} (xs : List A) (k : ℕ) (x : A) → slice_get xs k ≡ Some x → k < length xs
within [] k x e = cc
within (y ∷ xs) zero x e = omega arith
within (y ∷ xs) (suc k) x e = let rest = within xs k x e in omega (arith, rest)

pub take-count : {A : Type 0} (xs : List A) (k : ℕ) → k ≤ length xs → length (take k xs) ≡ k
take-count [] zero l = refl
take-count [] (suc k) l = absurd (omega (arith, l))
take-count (x ∷ xs) zero l = refl
take-count (x ∷ xs) (suc k) l = ap suc (take-count xs k (omega (arith, l)))

pub zip-more : {A B : Type 0} (R : A → B → Type 0) (xs : List A) (ys : List B) (x : A) (y : B) → AllZip R xs ys → R x y → AllZip R (xs ++ x ∷ []) (ys ++ y ∷ [])
zip-more R [] [] x y all r = (r, tt)
zip-more R [] (z ∷ ys) x y all r = absurd all
zip-more R (w ∷ xs) [] x y all r = absurd all
zip-more R (w ∷ xs) (z ∷ ys) x y all r = (all.0, zip-more R xs ys x y all.1 r)

pub zip-count : {A B : Type 0} (R : A → B → Type 0) (xs : List A) (ys : List B) → AllZip R xs ys → length xs ≡ length ys
zip-count R [] [] all = refl
zip-count R [] (z ∷ ys) all = absurd all
zip-count R (w ∷ xs) [] all = absurd all
zip-count R (w ∷ xs) (z ∷ ys) all = ap suc (zip-count R xs ys all.1)

pub zip-at : {A B : Type 0} (R : A → B → Type 0) (xs : List A) (ys : List B) (k : ℕ) (y : B) → AllZip R xs ys → slice_get ys k ≡ Some y → (x : A) × (slice_get xs k ≡ Some x) × R x y
zip-at R [] [] k y all e = cc
zip-at R [] (z ∷ ys) k y all e = absurd all
zip-at R (w ∷ xs) [] k y all e = absurd all
zip-at R (w ∷ xs) (z ∷ ys) zero y all e = let is : z ≡ y = cc in (w, refl, subst (R w) is all.0)
zip-at R (w ∷ xs) (z ∷ ys) (suc k) y all e = zip-at R xs ys k y all.1 e

pub map-append : {A B : Type 0} (f : A → B) (xs ys : List A) → map f (xs ++ ys) ≡ map f xs ++ map f ys
map-append f [] ys = refl
map-append f (x ∷ xs) ys = ap (λ zs. f x ∷ zs) (map-append f xs ys)

pub past-end : {A : Type 0} (xs : List A) (k : ℕ) → slice_get xs k ≡ None → length xs ≤ k
past-end [] k e = omega arith
past-end (x ∷ xs) zero e = cc
past-end (x ∷ xs) (suc k) e = let rest = past-end xs k e in omega (arith, rest)
