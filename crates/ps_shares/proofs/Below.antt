-- Lists by the numbers below a length.
use Rattle.std.proofs.Common.{◌≡◌, ◌⊎◌, inl, inr, ℕ, zero, suc, ◌+◌, ◌<◌, ◌≤◌, List, [], ◌∷◌, ◌++◌, length, get_or, refl, sym, ap, ◌∙◌, arith, length-append, add-one}
use Rattle.std.specs.Prelude.{map}
use Rattle.std.specs.List.{AllByRecursion}
use Rattle.std.proofs.Math.Seq.{get_or-append_seam}
use Rattle.std.proofs.lemmas.Bool.{cases_lt}
use Rattle.std.proofs.lemmas.List.{get_or_append_left, length-map, map-append}
use Rattle.ps_frame.specs.Causes.{Column}
use Rattle.ps_frame.specs.Zip.{below}
use Rattle.ps_shares.specs.Shares.{IsClear}

pub length_below : (n : ℕ) → length (below n) ≡ n
length_below zero = refl
length_below (suc n) = length-append (below n) (n ∷ []) ∙ ap (λ k. k + 1) (length_below n) ∙ add-one n

get_step : {X : Type 0} (f : ℕ → X) (xs : List X) (n i : ℕ) (d : X) → length xs ≡ n → i < suc n → (i < n → get_or xs i d ≡ f i) → (i < n) ⊎ (n ≤ i) → get_or (xs ++ f n ∷ []) i d ≡ f i
get_step f xs n i d l h before (inl lt) = let lt' : i < length xs = omega arith in get_or_append_left xs (f n ∷ []) d i lt' ∙ before lt
get_step f xs n i d l h before (inr ge) =
    let e : i ≡ length xs = omega arith in
    let k : n ≡ i = omega arith in
    ap (λ j. get_or (xs ++ f n ∷ []) j d) e ∙ get_or-append_seam xs (f n) [] d ∙ ap f k

-- the item at a place below n
pub get_below : {X : Type 0} (f : ℕ → X) (n i : ℕ) (d : X) → i < n → get_or (map f (below n)) i d ≡ f i
get_below f zero i d h = absurd (omega arith)
get_below f (suc n) i d h =
    let l : length (map f (below n)) ≡ n = length-map (below n) f ∙ length_below n in
    ap (λ xs. get_or xs i d) (map-append f (below n) (n ∷ [])) ∙ get_step f (map f (below n)) n i d l h (get_below f n i d) (cases_lt i n)

-- functions that agree below n
pub map_below : {X : Type 0} (f g : ℕ → X) (n : ℕ) → ((i : ℕ) → i < n → f i ≡ g i) → map f (below n) ≡ map g (below n)
map_below f g zero h = refl
map_below f g (suc n) h =
    map-append f (below n) (n ∷ []) ∙ ap (λ xs. xs ++ f n ∷ []) (map_below f g n (λ i l. h i (omega arith))) ∙ ap (λ x. map g (below n) ++ x ∷ []) (h n (omega arith)) ∙ sym (map-append g (below n) (n ∷ []))

pub all_clear : (xs ys : List Column) → AllByRecursion IsClear xs → AllByRecursion IsClear ys → AllByRecursion IsClear (xs ++ ys)
all_clear [] ys p q = q
all_clear (x ∷ xs) ys p q = (p.0, all_clear xs ys p.1 q)
