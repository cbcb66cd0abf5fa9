-- Lists with one more item, or with one item set: what stands where.
use Rattle.std.proofs.Common.{◌≡◌, ◌≢◌, ℕ, zero, suc, ◌+◌, ◌⊎◌, Bool, true, false, List, [], ◌∷◌, ◌++◌, length, Some, None, refl, sym, ap, ◌∙◌, inl, inr, arith}
use Rattle.std.specs.Prelude.{Contains, ◌&&◌, ◌||◌, map, not, slice_get, slice_set}
use Rattle.std.specs.List.{filter as kept, list_all, list_any}
use Rattle.ps_frame.specs.Causes.{is_empty}
use Rattle.world_laws.proofs.InOrder.{contains_cases, contains_first, contains_later, none_in_nil}

pub at_before : {A : Type 0} (xs ys : List A) (k : ℕ) (x : A) → slice_get xs k ≡ Some x → slice_get (xs ++ ys) k ≡ Some x
at_before [] ys k x e = absurd (let no : None ≡ Some x = e in cc)
at_before (y ∷ xs) ys zero x e = e
at_before (y ∷ xs) ys (suc k) x e = at_before xs ys k x e

pub at_end : {A : Type 0} (xs : List A) (x : A) → slice_get (xs ++ x ∷ []) (length xs) ≡ Some x
at_end [] x = refl
at_end (y ∷ xs) x = at_end xs x

pub at_cases : {A : Type 0} (xs : List A) (y : A) (k : ℕ) (x : A) → slice_get (xs ++ y ∷ []) k ≡ Some x → (slice_get xs k ≡ Some x) ⊎ (k ≡ length xs)
at_cases [] y zero x e = inr refl
at_cases [] y (suc k) x e = absurd (let no : None ≡ Some x = e in cc)
at_cases (z ∷ xs) y zero x e = inl e
at_cases (z ∷ xs) y (suc k) x e = by (at_cases xs y k x e)
  where
    by : (slice_get xs k ≡ Some x) ⊎ (k ≡ length xs) → (slice_get xs k ≡ Some x) ⊎ (suc k ≡ suc (length xs))
    by (inl h) = inl h
    by (inr h) = inr (ap suc h)

pub set_here : {A : Type 0} (xs : List A) (k : ℕ) (old new : A) → slice_get xs k ≡ Some old → slice_get (slice_set xs k new) k ≡ Some new
set_here [] k old new e = absurd (let no : None ≡ Some old = e in cc)
set_here (x ∷ xs) zero old new e = refl
set_here (x ∷ xs) (suc k) old new e = set_here xs k old new e

pub set_other : {A : Type 0} (xs : List A) (k j : ℕ) (new : A) → j ≢ k → slice_get (slice_set xs k new) j ≡ slice_get xs j
set_other [] k j new h = refl
set_other (x ∷ xs) zero zero new h = absurd (h refl)
set_other (x ∷ xs) zero (suc j) new h = refl
set_other (x ∷ xs) (suc k) zero new h = refl
set_other (x ∷ xs) (suc k) (suc j) new h = set_other xs k j new (λ e. h (ap suc e))

pub length-append_one : {A : Type 0} (xs : List A) (y : A) → length (xs ++ y ∷ []) ≡ length xs + 1
length-append_one [] y = refl
length-append_one (x ∷ xs) y = let h = length-append_one xs y in omega arith

-- tests of kept lists are tests of the whole lists
pub all_of_kept : {A : Type 0} (t f : A → Bool) (xs : List A) → list_all f (kept t xs) ≡ list_all (λ x. not (t x) || f x) xs
all_of_kept t f [] = refl
all_of_kept t f (x ∷ xs) = by (all_of_kept t f xs) (t x) refl
  where
    by : list_all f (kept t xs) ≡ list_all (λ y. not (t y) || f y) xs → (b : Bool) → t x ≡ b → list_all f (kept t (x ∷ xs)) ≡ list_all (λ y. not (t y) || f y) (x ∷ xs)
    by rest true e = rw (e, rest) refl
    by rest false e = rw (e, rest) refl

pub some_of_kept : {A : Type 0} (t f : A → Bool) (xs : List A) → list_any f (kept t xs) ≡ list_any (λ x. t x && f x) xs
some_of_kept t f [] = refl
some_of_kept t f (x ∷ xs) = by (some_of_kept t f xs) (t x) refl
  where
    by : list_any f (kept t xs) ≡ list_any (λ y. t y && f y) xs → (b : Bool) → t x ≡ b → list_any f (kept t (x ∷ xs)) ≡ list_any (λ y. t y && f y) (x ∷ xs)
    by rest true e = rw (e, rest) refl
    by rest false e = rw (e, rest) refl

pub is_some_kept : {A : Type 0} (t : A → Bool) (xs : List A) → not (is_empty (kept t xs)) ≡ list_any t xs
is_some_kept t [] = refl
is_some_kept t (x ∷ xs) = by (is_some_kept t xs) (t x) refl
  where
    by : not (is_empty (kept t xs)) ≡ list_any t xs → (b : Bool) → t x ≡ b → not (is_empty (kept t (x ∷ xs))) ≡ list_any t (x ∷ xs)
    by rest true e = rw e refl
    by rest false e = rw (e, rest) refl

-- tests that say the same of each item
pub all_same : {A : Type 0} (f g : A → Bool) (xs : List A) → ((x : A) → Contains xs x → f x ≡ g x) → list_all f xs ≡ list_all g xs
all_same f g [] h = refl
all_same f g (x ∷ xs) h = let a = h x (contains_first x xs) in let rest = all_same f g xs (λ y c. h y (contains_later x y xs c)) in λ i. a i && rest i

pub some_same : {A : Type 0} (f g : A → Bool) (xs : List A) → ((x : A) → Contains xs x → f x ≡ g x) → list_any f xs ≡ list_any g xs
some_same f g [] h = refl
some_same f g (x ∷ xs) h = let a = h x (contains_first x xs) in let rest = some_same f g xs (λ y c. h y (contains_later x y xs c)) in λ i. a i || rest i

pub all_map : {A B : Type 0} (f : B → Bool) (g : A → B) (xs : List A) → list_all f (map g xs) ≡ list_all (λ x. f (g x)) xs
all_map f g [] = refl
all_map f g (x ∷ xs) = ap (λ b. f (g x) && b) (all_map f g xs)

pub some_map : {A B : Type 0} (f : B → Bool) (g : A → B) (xs : List A) → list_any f (map g xs) ≡ list_any (λ x. f (g x)) xs
some_map f g [] = refl
some_map f g (x ∷ xs) = ap (λ b. f (g x) || b) (some_map f g xs)

pub all_at : {A : Type 0} (f : A → Bool) (xs : List A) (x : A) → list_all f xs ≡ true → Contains xs x → f x ≡ true
all_at f [] x e c = absurd (none_in_nil x c)
all_at f (y ∷ ys) x e c = by (λ rest later. all_at f ys x rest later) (contains_cases y x ys c) (f y) refl
  where
    by : (list_all f ys ≡ true → Contains ys x → f x ≡ true) → (y ≡ x) ⊎ Contains ys x → (b : Bool) → f y ≡ b → f x ≡ true
    by rest h false q = absurd (let no : false ≡ true = sym (ap (λ b. b && list_all f ys) q) ∙ e in cc)
    by rest (inl same) true q = ap f (sym same) ∙ q
    by rest (inr later) true q = rest (sym (ap (λ b. b && list_all f ys) q) ∙ e) later

pub some_at : {A : Type 0} (f : A → Bool) (xs : List A) → list_any f xs ≡ true → (x : A) × Contains xs x × (f x ≡ true)
some_at f [] e = absurd (let no : false ≡ true = e in cc)
some_at {A = A} f (x ∷ xs) e = by (some_at f xs) (f x) refl
  where
    by : (list_any f xs ≡ true → (y : A) × Contains xs y × (f y ≡ true)) → (b : Bool) → f x ≡ b → (y : A) × Contains (x ∷ xs) y × (f y ≡ true)
    by rest true q = (x, contains_first x xs, q)
    by rest false q = let r = rest (sym (ap (λ b. b || list_any f xs) q) ∙ e) in (r.0, contains_later x r.0 xs r.1, r.2)
