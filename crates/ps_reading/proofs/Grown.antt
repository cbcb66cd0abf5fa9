-- Lists that grow at their ends.
use Rattle.std.proofs.Common.{◌≡◌, List, [], ◌∷◌, ◌++◌, refl, ap}
use Rattle.std.specs.Prelude.{map}
use Rattle.std.specs.List.{AllZip}

-- one more of each
pub zip-push : {A B : Type 0} (R : A → B → Type 0) (xs : List A) (ys : List B) (x : A) (y : B) → AllZip R xs ys → R x y → AllZip R (xs ++ x ∷ []) (ys ++ y ∷ [])
zip-push R [] [] x y h r = (r, tt)
zip-push R [] (z ∷ zs) x y h r = absurd h
zip-push R (w ∷ ws) [] x y h r = absurd h
zip-push R (w ∷ ws) (z ∷ zs) x y h r = (h.0, zip-push R ws zs x y h.1 r)

pub map-push : {A B : Type 0} (f : A → B) (xs : List A) (x : A) (ys : List B) → map f (xs ++ x ∷ []) ++ ys ≡ map f xs ++ (f x ∷ ys)
map-push f [] x ys = refl
map-push f (w ∷ ws) x ys = ap (λ zs. f w ∷ zs) (map-push f ws x ys)
