-- Lists that begin with others.
use Rattle.std.proofs.Common.{◌≡◌, ℕ, zero, suc, ◌≤◌, ◌<◌, List, [], ◌∷◌, ◌++◌, length, get_or, refl, sym, ap, subst, ◌∙◌, arith, length-append}
use Rattle.std.proofs.Math.ListN.{get_or-append}
use Rattle.std.proofs.lemmas.List.{append-nil, map-append}
use Rattle.std.proofs.lemmas.List.Elements.{filter-append}
use Rattle.std.proofs.lemmas.List.Sums.{take_while-cons}
use Rattle.std.specs.Prelude.{Bool, true, false, ◌||◌, cond, map, filter, take_while}
use Rattle.ps_frame.specs.Zip.{below}
use native.Mathlib.Decide.{dec_le}
use mathlib.Core.Logic.{dite}

-- ys begins with xs
abbrev pub Begins : {A : Type 0} → List A → List A → Type 0
Begins {A} xs ys = (rest : List A) × (xs ++ rest ≡ ys)

pub begins-same : {A : Type 0} (xs : List A) → Begins xs xs
begins-same xs = ([], append-nil xs)

pub begins-empty : {A : Type 0} (ys : List A) → Begins [] ys
begins-empty ys = (ys, refl)

pub begins-map : {A B : Type 0} (f : A → B) (xs ys : List A) → Begins xs ys → Begins (map f xs) (map f ys)
begins-map f xs ys (rest, e) = (map f rest, sym (map-append f xs rest) ∙ ap (map f) e)

pub begins-filter : {A : Type 0} (f : A → Bool) (xs ys : List A) → Begins xs ys → Begins (filter f xs) (filter f ys)
begins-filter f xs ys (rest, e) = (filter f rest, sym (filter-append f xs rest) ∙ ap (filter f) e)

pub begins-append : {A : Type 0} (zs xs ys : List A) → Begins xs ys → Begins (zs ++ xs) (zs ++ ys)
begins-append [] xs ys b = b
begins-append (z ∷ zs) xs ys b = let h = begins-append zs xs ys b in (h.0, ap (λ ws. z ∷ ws) h.1)

while-more : {A : Type 0} (x : A) (xs ys : List A) → Begins xs ys → (b : Bool) → Begins (cond b (x ∷ xs) []) (cond b (x ∷ ys) [])
while-more x xs ys h true = (h.0, ap (λ ws. x ∷ ws) h.1)
while-more x xs ys h false = ([], refl)

while-longer : {A : Type 0} (p : A → Bool) (xs rest : List A) → Begins (take_while p xs) (take_while p (xs ++ rest))
while-longer p [] rest = (take_while p rest, refl)
while-longer p (x ∷ xs) rest =
    let h = while-more x (take_while p xs) (take_while p (xs ++ rest)) (while-longer p xs rest) (p x) in
    subst (λ zs. Begins zs (take_while p (x ∷ (xs ++ rest)))) (sym (take_while-cons p x xs)) (subst (λ zs. Begins (cond (p x) (x ∷ take_while p xs) []) zs) (sym (take_while-cons p x (xs ++ rest))) h)

pub begins-while : {A : Type 0} (p : A → Bool) (xs ys : List A) → Begins xs ys → Begins (take_while p xs) (take_while p ys)
begins-while p xs ys (rest, e) = let h = while-longer p xs rest in (h.0, h.1 ∙ ap (take_while p) e)

pub begins-length : {A : Type 0} (xs ys : List A) → Begins xs ys → length xs ≤ length ys
begins-length xs ys (rest, e) = let h = length-append xs rest in let k = ap length e in omega arith

pub begins-get : {A : Type 0} (xs ys : List A) (d : A) (i : ℕ) → Begins xs ys → i < length xs → get_or ys i d ≡ get_or xs i d
begins-get xs ys d i (rest, e) h = ap (λ zs. get_or zs i d) (sym e) ∙ get_or-append xs rest d i h

-- the numbers below a number begin those below a greater one
pub begins-below : (n m : ℕ) → n ≤ m → Begins (below n) (below m)
begins-below n zero h = let e : n ≡ 0 = omega arith in subst (λ k. Begins (below k) []) (sym e) ([], refl)
begins-below n (suc m) h =
    dite (dec_le n m)
    (λ le. let b = begins-below n m le in (b.0 ++ m ∷ [], append_back (below n) b.0 (m ∷ []) ∙ ap (λ zs. zs ++ m ∷ []) b.1))
    (λ more. let e : n ≡ suc m = omega arith in subst (λ k. Begins (below k) (below (suc m))) (sym e) (begins-same (below (suc m))))
  where
    append_back : (xs ys zs : List ℕ) → xs ++ (ys ++ zs) ≡ (xs ++ ys) ++ zs
    append_back [] ys zs = refl
    append_back (x ∷ xs) ys zs = ap (λ ws. x ∷ ws) (append_back xs ys zs)

-- what is the same below a number gives the same lists
pub map-below : {A : Type 0} (n : ℕ) (f g : ℕ → A) → ((i : ℕ) → i < n → f i ≡ g i) → map f (below n) ≡ map g (below n)
map-below zero f g same = refl
map-below (suc n) f g same =
    map-append f (below n) (n ∷ []) ∙ ap (λ zs. zs ++ f n ∷ []) (map-below n f g (λ i h. same i (omega arith))) ∙ ap (λ a. map g (below n) ++ a ∷ []) (same n (omega arith)) ∙ sym (map-append g (below n) (n ∷ []))

-- a list that isn't empty in either part isn't empty
pub append-empty_right : {A : Type 0} (xs ys : List A) → xs ++ ys ≡ [] → ys ≡ []
append-empty_right [] ys e = e
append-empty_right (x ∷ xs) ys e = cc

pub append-empty_left : {A : Type 0} (xs ys : List A) → xs ++ ys ≡ [] → xs ≡ []
append-empty_left [] ys e = refl
append-empty_left (x ∷ xs) ys e = cc

-- tests
pub or-left : (a b : Bool) → a ≡ true → (a || b) ≡ true
or-left a b e = ap (λ c. c || b) e

pub or-right : (a b : Bool) → b ≡ true → (a || b) ≡ true
or-right true b e = refl
or-right false b e = e
