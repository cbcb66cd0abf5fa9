-- What holds of each cause of some lists holds of each cause of lists that are made of them.
use Rattle.std.proofs.Common.{◌≡◌, zero, suc, ◌⊎◌, Bool, true, false, List, [], ◌∷◌, ◌++◌, refl, subst, inl, inr, arith}
use Rattle.std.specs.Prelude.{Contains, filter, map, if◌then◌else◌}
use Rattle.std.specs.List.{flat_map}
use Rattle.std.proofs.lemmas.List.Elements.{Contains-append_cases}
use Rattle.ps_frame.specs.Causes.{Cause}

pub contains_cases : {A : Type 0} (x y : A) (xs : List A) → Contains (x ∷ xs) y → (x ≡ y) ⊎ Contains xs y
contains_cases x y xs (zero, h, e) = inl e
contains_cases x y xs (suc k, h, e) = inr (k, omega arith, e)

pub none_in_nil : {A : Type 0} (y : A) → Contains [] y → ⊥
none_in_nil y (k, h, e) = absurd (omega arith)

pub contains_first : {A : Type 0} (x : A) (xs : List A) → Contains (x ∷ xs) x
contains_first x xs = (0, omega arith, refl)

pub contains_later : {A : Type 0} (x y : A) (xs : List A) → Contains xs y → Contains (x ∷ xs) y
contains_later x y xs (k, h, e) = (suc k, omega arith, e)

pub from_map : {A B : Type 0} (f : A → B) (y : B) (xs : List A) → Contains (map f xs) y → (x : A) × Contains xs x × (f x ≡ y)
from_map f y [] c = absurd (none_in_nil y c)
from_map {A = A} f y (x ∷ xs) c = by (from_map f y xs) (contains_cases (f x) y (map f xs) c)
  where
    by : (Contains (map f xs) y → (z : A) × Contains xs z × (f z ≡ y)) → (f x ≡ y) ⊎ Contains (map f xs) y → (z : A) × Contains (x ∷ xs) z × (f z ≡ y)
    by rest (inl e) = (x, contains_first x xs, e)
    by rest (inr later) = let r = rest later in (r.0, contains_later x r.0 xs r.1, r.2)

pub from_filter : {A : Type 0} (t : A → Bool) (y : A) (xs : List A) → Contains (filter t xs) y → Contains xs y
from_filter t y [] c = c
from_filter t y (x ∷ xs) c = by (from_filter t y xs) (t x) refl
  where
    later : (Contains (filter t xs) y → Contains xs y) → (x ≡ y) ⊎ Contains (filter t xs) y → Contains (x ∷ xs) y
    later rest (inl e) = subst (Contains (x ∷ xs)) e (contains_first x xs)
    later rest (inr d) = contains_later x y xs (rest d)

    by : (Contains (filter t xs) y → Contains xs y) → (b : Bool) → t x ≡ b → Contains (x ∷ xs) y
    by rest true e = later rest (contains_cases x y (filter t xs) (rw e at c))
    by rest false e = contains_later x y xs (rest (rw e at c))

module _ (P : Cause → Type 0) where
  abbrev pub Each : List Cause → Type 0
  Each xs = (x : Cause) → Contains xs x → P x

  pub none : Each []
  none x c = absurd (none_in_nil x c)

  pub one : (c : Cause) → P c → Each (c ∷ [])
  one c h x d = by (contains_cases c x [] d)
    where
      by : (c ≡ x) ⊎ Contains [] x → P x
      by (inl e) = subst P e h
      by (inr later) = absurd (none_in_nil x later)

  pub both : (xs ys : List Cause) → Each xs → Each ys → Each (xs ++ ys)
  both xs ys h g x c = by (Contains-append_cases xs ys x c)
    where
      by : Contains xs x ⊎ Contains ys x → P x
      by (inl d) = h x d
      by (inr d) = g x d

  pub flat : {A : Type 0} (f : A → List Cause) (items : List A) → ((a : A) → Contains items a → Each (f a)) → Each (flat_map f items)
  flat f [] h = none
  flat f (a ∷ items) h = both (f a) (flat_map f items) (h a (contains_first a items)) (flat f items (λ b c. h b (contains_later a b items c)))

  pub either : (b : Bool) (xs ys : List Cause) → Each xs → Each ys → Each (if b then xs else ys)
  either true xs ys h g = h
  either false xs ys h g = g
