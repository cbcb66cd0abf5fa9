-- The greatest of the numbers of a list.
use Rattle.std.proofs.Common.{◌≡◌, ℕ, ◌+◌, ◌-◌, ◌^◌, ◌<◌, ◌≤◌, min, max, List, [], ◌∷◌, ◌++◌, map, length, take, get_or, sym, refl, ap, ◌∙◌, arith}
use Rattle.std.proofs.lemmas.List.{take_more, take_all}
use Rattle.text_queries.specs.Queries.{greatest}

greatest-push : {X : Type 0} (f : X → ℕ) → (xs : List X) (x : X) → greatest f (xs ++ x ∷ []) ≡ max (greatest f xs) (f x)
greatest-push f [] x = omega arith
greatest-push f (y ∷ ys) x = omega (arith, greatest-push f ys x)

pub greatest-map : {X Y : Type 0} (f : Y → ℕ) (g : X → Y) → (xs : List X) → greatest f (map g xs) ≡ greatest (λ x. f (g x)) xs
greatest-map f g [] = refl
greatest-map f g (x ∷ xs) = ap (max (f (g x))) (greatest-map f g xs)

-- one more element, where no number is told above a bound
pub greatest-more : {X : Type 0} (f : X → ℕ) → (xs : List X) (i : ℕ) (x : X) (told one more : ℕ) → i < length xs → x ≡ get_or xs i x → told ≡ min (greatest f (take i xs)) (2 ^ 64 - 1) → one ≡ min (f x) (2 ^ 64 - 1) → more ≡ max told one
    → more ≡ min (greatest f (take (i + 1) xs)) (2 ^ 64 - 1)
greatest-more f xs i x told one more below is so_far at most =
    let step : greatest f (take (i + 1) xs) ≡ max (greatest f (take i xs)) (f x) =
    ap (greatest f) (take_more xs i x below) ∙ greatest-push f (take i xs) (get_or xs i x) ∙ ap (λ y. max (greatest f (take i xs)) (f y)) (sym is) in
    omega (arith, step, so_far, at, most)

-- what a loop over all elements told, of the elements by view
pub greatest-all : {X Y : Type 0} (f : Y → ℕ) (view : X → Y) → (xs : List X) (i told : ℕ) → length xs ≤ i → told ≡ min (greatest (λ x. f (view x)) (take i xs)) (2 ^ 64 - 1) → told ≡ min (greatest f (map view xs)) (2 ^ 64 - 1)
greatest-all f view xs i told all is =
    is ∙ ap (λ ys. min (greatest (λ x. f (view x)) ys) (2 ^ 64 - 1)) (take_all i xs all) ∙ ap (λ n. min n (2 ^ 64 - 1)) (sym (greatest-map f view xs))
