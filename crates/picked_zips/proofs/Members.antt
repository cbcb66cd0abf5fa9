-- Members of lists that are made of others.
use Rattle.std.proofs.Common.{◌≡◌, ◌⊎◌, inl, inr, ℕ, zero, suc, ◌<◌, Bool, true, false, cond, List, [], ◌∷◌, length, get_or, refl, sym, ap, subst, ◌∙◌, arith}
use Rattle.std.specs.Prelude.{map, flat_map, filter}
use Rattle.std.specs.List.{AllByRecursion}
use Rattle.ps_shares.proofs.Ends.{has_either, has_first}
use Rattle.ps_shares.proofs.Members.{Has}
use Rattle.ps_bundles.proofs.Gathered.{has_last}

pub has_map : {A B : Type 0} (f : A → B) (xs : List A) (a : A) → Has xs a → Has (map f xs) (f a)
has_map f [] a h = absurd h
has_map f (x ∷ xs) a (inl e) = inl (ap f e)
has_map f (x ∷ xs) a (inr h) = inr (has_map f xs a h)

pub of_map : {A B : Type 0} (f : A → B) (xs : List A) (b : B) → Has (map f xs) b → (a : A) × Has xs a × (f a ≡ b)
of_map f [] b h = absurd h
of_map f (x ∷ xs) b (inl e) = (x, inl refl, e)
of_map f (x ∷ xs) b (inr h) = let r = of_map f xs b h in (r.0, inr r.1, r.2)

pub has_flat : {A B : Type 0} (f : A → List B) (xs : List A) (a : A) (b : B) → Has xs a → Has (f a) b → Has (flat_map f xs) b
has_flat f [] a b h k = absurd h
has_flat f (x ∷ xs) a b (inl e) k = has_first (f x) (flat_map f xs) b (subst (λ a. Has (f a) b) (sym e) k)
has_flat f (x ∷ xs) a b (inr h) k = has_last (f x) (flat_map f xs) b (has_flat f xs a b h k)

pub of_flat : {A B : Type 0} (f : A → List B) (xs : List A) (b : B) → Has (flat_map f xs) b → (a : A) × Has xs a × Has (f a) b
of_flat f [] b h = absurd h
of_flat {A} f (x ∷ xs) b h = by (has_either (f x) (flat_map f xs) b h) (of_flat f xs b)
  where
    by : Has (f x) b ⊎ Has (flat_map f xs) b → (Has (flat_map f xs) b → (a : A) × Has xs a × Has (f a) b) → (a : A) × Has (x ∷ xs) a × Has (f a) b
    by (inl k) rest = (x, inl refl, k)
    by (inr k) rest = let r = rest k in (r.0, inr r.1, r.2)

pub has_those : {A : Type 0} (test : A → Bool) (xs : List A) (a : A) → Has xs a → test a ≡ true → Has (filter test xs) a
has_those test [] a h t = absurd h
has_those {A} test (x ∷ xs) a h t = by (test x) refl h (λ k. has_those test xs a k t)
  where
    by : (b : Bool) → test x ≡ b → (x ≡ a) ⊎ Has xs a → (Has xs a → Has (filter test xs) a) → Has (cond b (x ∷ filter test xs) (filter test xs)) a
    by true q (inl e) rest = inl e
    by true q (inr k) rest = inr (rest k)
    by false q (inl e) rest = let w : true ≡ false = sym t ∙ ap test (sym e) ∙ q in cc
    by false q (inr k) rest = rest k

pub of_those : {A : Type 0} (test : A → Bool) (xs : List A) (a : A) → Has (filter test xs) a → Has xs a × (test a ≡ true)
of_those test [] a h = absurd h
of_those {A} test (x ∷ xs) a h = by (test x) refl h (of_those test xs a)
  where
    by : (b : Bool) → test x ≡ b → Has (cond b (x ∷ filter test xs) (filter test xs)) a → (Has (filter test xs) a → Has xs a × (test a ≡ true)) → Has (x ∷ xs) a × (test a ≡ true)
    by true q (inl e) rest = (inl e, ap test (sym e) ∙ q)
    by true q (inr k) rest = let r = rest k in (inr r.0, r.1)
    by false q k rest = let r = rest k in (inr r.0, r.1)

pub has_place : {A : Type 0} (xs : List A) (j : ℕ) (d : A) → j < length xs → Has xs (get_or xs j d)
has_place [] j d lt = absurd (omega arith)
has_place (x ∷ xs) zero d lt = inl refl
has_place (x ∷ xs) (suc j) d lt = inr (has_place xs j d (omega arith))

-- filters and maps
pub filter_map : {A B : Type 0} (f : A → B) (test : B → Bool) (xs : List A) → filter test (map f xs) ≡ map f (filter (λ x. test (f x)) xs)
filter_map f test [] = refl
filter_map {A} {B} f test (x ∷ xs) = by (test (f x)) (filter_map f test xs)
  where
    by : (b : Bool) → filter test (map f xs) ≡ map f (filter (λ x. test (f x)) xs) → cond b (f x ∷ filter test (map f xs)) (filter test (map f xs)) ≡ map f (cond b (x ∷ filter (λ x. test (f x)) xs) (filter (λ x. test (f x)) xs))
    by true e = ap (λ ys. f x ∷ ys) e
    by false e = e

pub map_each : {A B : Type 0} (f g : A → B) (P : A → Type 0) → ((x : A) → P x → f x ≡ g x) → (xs : List A) → AllByRecursion P xs → map f xs ≡ map g xs
map_each f g P same [] all = refl
map_each f g P same (x ∷ xs) all = let p = same x all.0 in let q = map_each f g P same xs all.1 in λ i. p i ∷ q i

pub filter_each : {A : Type 0} (f g : A → Bool) (P : A → Type 0) → ((x : A) → P x → f x ≡ g x) → (xs : List A) → AllByRecursion P xs → filter f xs ≡ filter g xs
filter_each f g P same [] all = refl
filter_each f g P same (x ∷ xs) all = let p = same x all.0 in let q = filter_each f g P same xs all.1 in λ i. cond (p i) (x ∷ q i) (q i)
