-- Lists that grow at the end, beside what they stand for.
use Rattle.std.proofs.Common.{◌≡◌, ℕ, ◌+◌, ◌≤◌, List, [], ◌∷◌, ◌++◌, length, map, take, sym, ◌∙◌, ap, subst}
use Rattle.std.specs.Prelude.{slice_get, Some}
use Rattle.std.specs.List.{AllZip}
use Rattle.std.proofs.lemmas.List.{map-append, take_all}
use Rattle.ps_compute.proofs.Listed.{take_at}

push-zip : {A B : Type 0} (R : A → B → Type 0) (xs : List A) (ys : List B) (x : A) (y : B) → AllZip R xs ys → R x y → AllZip R (xs ++ x ∷ []) (ys ++ y ∷ [])
push-zip R [] [] x y h r = (r, tt)
push-zip R [] (b ∷ ys) x y h r = absurd h
push-zip R (a ∷ xs) [] x y h r = absurd h
push-zip R (a ∷ xs) (b ∷ ys) x y h r = (h.0, push-zip R xs ys x y h.1 r)

pub zip-more : {A B C : Type 0} (R : A → B → Type 0) (f : C → B) (cs : List C) (i : ℕ) (xs xs' : List A) (x : A) (c : C) → slice_get cs i ≡ Some c → xs' ≡ xs ++ x ∷ []
    → AllZip R xs (map f (take i cs)) → R x (f c) → AllZip R xs' (map f (take (i + 1) cs))
zip-more R f cs i xs xs' x c at is before r =
    let front : map f (take (i + 1) cs) ≡ map f (take i cs) ++ f c ∷ [] =
    ap (map f) (take_at cs i c at) ∙ map-append f (take i cs) (c ∷ []) in
    subst (λ ys. AllZip R xs' ys) (sym front) (subst (λ zs. AllZip R zs (map f (take i cs) ++ f c ∷ [])) (sym is) (push-zip R xs (map f (take i cs)) x (f c) before r))

pub zip-all : {A B C : Type 0} (R : A → B → Type 0) (f : C → B) (cs : List C) (i : ℕ) (xs : List A) → length cs ≤ i → AllZip R xs (map f (take i cs)) → AllZip R xs (map f cs)
zip-all R f cs i xs g z = let e : take i cs ≡ cs = take_all i cs g in
    subst (λ ys. AllZip R xs (map f ys)) e z
