-- Items that a test keeps, by their places.
use Rattle.std.proofs.Common.{◌≡◌, ℕ, suc, ◌+◌, ◌<◌, ◌≤◌, List, [], ◌∷◌, ◌++◌, length, get_or, map, Bool, true, false, cond, refl, sym, ap, subst, ◌∙◌, arith}
use Rattle.std.specs.Prelude.{filter as kept}
use Rattle.std.specs.List.{All}
use Rattle.std.proofs.lemmas.List.{append-nil}
use Rattle.std.proofs.lemmas.List.Elements.{filter-append}
use Rattle.std.proofs.lemmas.Grind.{get_or_default_zero}
use Rattle.ps_frame.specs.Zip.{below}
use Rattle.ps_keys.proofs.FirstRows.{items_at, kept-bounded, length-below}
use Rattle.ps_keys.proofs.RowValues.{below-front, map-map}

-- a test of mapped items
pub kept-map : {A B : Type 0} (f : A → B) (p : B → Bool) (xs : List A) → kept p (map f xs) ≡ map f (kept (λ x. p (f x)) xs)
kept-map f p [] = refl
kept-map f p (x ∷ xs) = step (p (f x)) (kept-map f p xs)
  where
    step : (t : Bool) → kept p (map f xs) ≡ map f (kept (λ y. p (f y)) xs) → cond t (f x ∷ kept p (map f xs)) (kept p (map f xs)) ≡ map f (cond t (x ∷ kept (λ y. p (f y)) xs) (kept (λ y. p (f y)) xs))
    step true rest = ap (λ ys. f x ∷ ys) rest
    step false rest = rest

-- the numbers that a test keeps, from the front
pub kept-front : (p : ℕ → Bool) (n : ℕ) → kept p (below (suc n)) ≡ cond (p 0) (0 ∷ map suc (kept (λ i. p (suc i)) (below n))) (map suc (kept (λ i. p (suc i)) (below n)))
kept-front p n = ap (kept p) (below-front n) ∙ ap (λ xs. cond (p 0) (0 ∷ xs) xs) (kept-map suc p (below n))

-- the places after the first
pub items_at-next : {A : Type 0} (d x : A) (xs : List A) (places : List ℕ) → items_at d (x ∷ xs) (map suc places) ≡ items_at d xs places
items_at-next d x xs places = map-map (λ i. get_or (x ∷ xs) i d) suc places

-- what a test keeps is what stands at the places that it passes
pub kept-at : {A : Type 0} (d : A) (q : A → Bool) (xs : List A) → items_at d xs (kept (λ i. q (get_or xs i d)) (below (length xs))) ≡ kept q xs
kept-at d q [] = refl
kept-at d q (x ∷ xs) =
    ap (items_at d (x ∷ xs)) (kept-front (λ i. q (get_or (x ∷ xs) i d)) (length xs))
    ∙ step (q x) (items_at-next d x xs (kept (λ i. q (get_or xs i d)) (below (length xs))) ∙ kept-at d q xs)
  where
    step : (t : Bool) → items_at d (x ∷ xs) (map suc (kept (λ i. q (get_or xs i d)) (below (length xs)))) ≡ kept q xs
        → items_at d (x ∷ xs) (cond t (0 ∷ map suc (kept (λ i. q (get_or xs i d)) (below (length xs)))) (map suc (kept (λ i. q (get_or xs i d)) (below (length xs))))) ≡ cond t (x ∷ kept q xs) (kept q xs)
    step true rest = ap (λ ys. x ∷ ys) rest
    step false rest = rest

-- the numbers that a test keeps below n are below n, and no more than n
pub kept-all : (n : ℕ) (p : ℕ → Bool) → All (λ i. i < n) (kept p (below n))
kept-all n p k d within = omega (arith, get_or_default_zero (kept p (below n)) k d within, kept-bounded n p k within)

pub kept-few : {A : Type 0} (p : A → Bool) (xs : List A) → length (kept p xs) ≤ length xs
kept-few p [] = omega arith
kept-few p (x ∷ xs) = step (p x) (kept-few p xs)
  where
    step : (t : Bool) → length (kept p xs) ≤ length xs → length (cond t (x ∷ kept p xs) (kept p xs)) ≤ suc (length xs)
    step true rest = omega arith
    step false rest = omega arith

pub kept_below-few : (n : ℕ) (p : ℕ → Bool) → length (kept p (below n)) ≤ n
kept_below-few n p = omega (arith, kept-few p (below n), length-below n)

-- one number more
pub kept-more : (p : ℕ → Bool) (i : ℕ) (t : Bool) → p i ≡ t → kept p (below (i + 1)) ≡ kept p (below i) ++ cond t (i ∷ []) []
kept-more p i t e =
    let more : i + 1 ≡ suc i = omega arith in
    ap (λ n. kept p (below n)) more ∙ filter-append p (below i) (i ∷ []) ∙ ap (λ s. kept p (below i) ++ cond s (i ∷ []) []) e

pub kept-yes : (p : ℕ → Bool) (i : ℕ) (xs ys : List ℕ) → xs ≡ kept p (below i) → p i ≡ true → ys ≡ xs ++ i ∷ [] → ys ≡ kept p (below (i + 1))
kept-yes p i xs ys before passes grown = grown ∙ ap (λ zs. zs ++ i ∷ []) before ∙ sym (kept-more p i true passes)

pub kept-no : (p : ℕ → Bool) (i : ℕ) (xs ys : List ℕ) → xs ≡ kept p (below i) → p i ≡ false → ys ≡ xs → ys ≡ kept p (below (i + 1))
kept-no p i xs ys before fails same = same ∙ before ∙ sym (append-nil (kept p (below i))) ∙ sym (kept-more p i false fails)

-- each number below n is below n
pub all-below : (n : ℕ) (xs : List ℕ) → xs ≡ below n → All (λ i. i < n) xs
all-below n xs e = subst (All (λ i. i < n)) (sym (e ∙ sym (kept-every (below n)))) (kept-all n (λ i. true))
  where
    kept-every : (ys : List ℕ) → kept (λ i. true) ys ≡ ys
    kept-every [] = refl
    kept-every (y ∷ ys) = ap (λ zs. y ∷ zs) (kept-every ys)

-- what is made of each place is made of each item
pub map-places : {A B : Type 0} (g : A → B) (xs : List A) (d : A) (f : ℕ → B) → ((k : ℕ) → k < length xs → f k ≡ g (get_or xs k d)) → map f (below (length xs)) ≡ map g xs
map-places g [] d f each = refl
map-places g (x ∷ xs) d f each =
    ap (map f) (below-front (length xs))
    ∙ ap (λ ys. f 0 ∷ ys) (map-map f suc (below (length xs)) ∙ map-places g xs d (λ k. f (suc k)) (λ k within. each (suc k) (omega arith)))
    ∙ ap (λ y. y ∷ map g xs) (each 0 (omega arith))
