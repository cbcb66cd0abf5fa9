-- Lists that are kept in part, set in order and changed item by item.
use Rattle.std.proofs.Common.{◌≡◌, ◌≢◌, ℕ, zero, suc, ◌<◌, ◌⊎◌, Bool, true, false, cond, List, [], ◌∷◌, length, Some, None, get_or, refl, sym, ap, ◌∙◌, inl, inr, arith}
use Rattle.std.specs.Prelude.{Contains, map, option_map, slice_get, slice_set}
use Rattle.std.specs.List.{filter as kept}
use Rattle.std.proofs.lemmas.Option.{get_or_from_slice_get, slice_get-map, slice_get_within}
use Rattle.ps_frame.specs.Sorting.{in_order, insert_in_order}
use Rattle.ps_frame.specs.Zip.{below}
use Rattle.ps_frame.proofs.Gathers.{get_or-below}

pub contains_cases : {A : Type 0} (x y : A) (xs : List A) → Contains (x ∷ xs) y → (x ≡ y) ⊎ Contains xs y
contains_cases x y xs (zero, h, e) = inl e
contains_cases x y xs (suc k, h, e) = inr (k, omega arith, e)

pub contains_later : {A : Type 0} (x y : A) (xs : List A) → Contains xs y → Contains (x ∷ xs) y
contains_later x y xs (k, h, e) = (suc k, omega arith, e)

pub contains_first : {A : Type 0} (x y : A) (xs : List A) → x ≡ y → Contains (x ∷ xs) y
contains_first x y xs e = (0, omega arith, e)

pub none_in_nil : {A : Type 0} (y : A) → Contains [] y → ⊥
none_in_nil y (k, h, e) = absurd (omega arith)

pub contains_at : {A : Type 0} (xs : List A) (i : ℕ) (x : A) → slice_get xs i ≡ Some x → Contains xs x
contains_at [] i x e = absurd (let no : None ≡ Some x = e in cc)
contains_at (y ∷ ys) zero x e = contains_first y x ys (let q : Some y ≡ Some x = e in cc)
contains_at (y ∷ ys) (suc i) x e = contains_later y x ys (contains_at ys i x e)

pub place_of : {A : Type 0} (xs : List A) (x : A) → Contains xs x → (i : ℕ) × (slice_get xs i ≡ Some x)
place_of [] x c = absurd (none_in_nil x c)
place_of {A} (y ∷ ys) x c = by (place_of ys x) (contains_cases y x ys c)
  where
    by : (Contains ys x → (i : ℕ) × (slice_get ys i ≡ Some x)) → (y ≡ x) ⊎ Contains ys x → (i : ℕ) × (slice_get (y ∷ ys) i ≡ Some x)
    by rest (inl e) = (0, ap Some e)
    by rest (inr later) = let r = rest later in (suc r.0, r.1)

-- an item of a changed list comes from one of the list
pub at_map : {A B : Type 0} (f : A → B) (xs : List A) (i : ℕ) (y : B) → slice_get (map f xs) i ≡ Some y → (x : A) × (slice_get xs i ≡ Some x) × (f x ≡ y)
at_map f [] i y e = absurd (let no : None ≡ Some y = e in cc)
at_map f (x ∷ xs) zero y e = (x, refl, (let q : Some (f x) ≡ Some y = e in cc))
at_map f (x ∷ xs) (suc i) y e = at_map f xs i y e

pub map_at : {A B : Type 0} (f : A → B) (xs : List A) (i : ℕ) (x : A) → slice_get xs i ≡ Some x → slice_get (map f xs) i ≡ Some (f x)
map_at f xs i x e = slice_get-map f xs i ∙ ap (option_map f) e

pub at_both : {A : Type 0} (xs : List A) (i : ℕ) (x y : A) → slice_get xs i ≡ Some x → slice_get xs i ≡ Some y → x ≡ y
at_both xs i x y e d = let q : Some x ≡ Some y = sym e ∙ d in cc

pub item_at : {A : Type 0} (xs : List A) (i : ℕ) → i < length xs → (x : A) × (slice_get xs i ≡ Some x)
item_at [] i h = absurd (omega arith)
item_at (x ∷ xs) zero h = (x, refl)
item_at (x ∷ xs) (suc i) h = item_at xs i (omega arith)

-- lists that have the same at each place are the same
pub same_items : {A : Type 0} (xs ys : List A) → length xs ≡ length ys → ((i : ℕ) (x y : A) → slice_get xs i ≡ Some x → slice_get ys i ≡ Some y → x ≡ y) → xs ≡ ys
same_items [] [] e h = refl
same_items [] (y ∷ ys) e h = absurd (omega (arith, e))
same_items (x ∷ xs) [] e h = absurd (omega (arith, e))
same_items (x ∷ xs) (y ∷ ys) e h =
    let first : x ≡ y = h 0 x y refl refl in
    let others : xs ≡ ys = same_items xs ys (omega (arith, e)) (λ i u v p q. h (suc i) u v p q) in
    λ j. first j ∷ others j

-- two functions that agree on the items of a list
pub map_alike : {A B : Type 0} (f g : A → B) (xs : List A) → ((x : A) → Contains xs x → f x ≡ g x) → map f xs ≡ map g xs
map_alike f g [] h = refl
map_alike f g (x ∷ xs) h =
    let first = h x (contains_first x x xs refl) in
    let others = map_alike f g xs (λ y c. h y (contains_later x y xs c)) in
    λ j. first j ∷ others j

pub map_twice : {A B C : Type 0} (f : B → C) (g : A → B) (xs : List A) → map f (map g xs) ≡ map (λ x. f (g x)) xs
map_twice f g [] = refl
map_twice f g (x ∷ xs) = ap (λ l. f (g x) ∷ l) (map_twice f g xs)

pub length_map : {A B : Type 0} (f : A → B) (xs : List A) → length (map f xs) ≡ length xs
length_map f [] = refl
length_map f (x ∷ xs) = ap suc (length_map f xs)

-- what is kept of a list, and what is kept stood there
pub in_kept : {A : Type 0} (t : A → Bool) (x : A) (xs : List A) → Contains xs x → t x ≡ true → Contains (kept t xs) x
in_kept t x [] c e = absurd (none_in_nil x c)
in_kept t x (y ∷ ys) c e = by (λ later. in_kept t x ys later e) (contains_cases y x ys c) (t y) refl
  where
    by : (Contains ys x → Contains (kept t ys) x) → (y ≡ x) ⊎ Contains ys x → (b : Bool) → t y ≡ b → Contains (kept t (y ∷ ys)) x
    by rest (inl same) true ty = rw ty (contains_first y x (kept t ys) same)
    by rest (inl same) false ty = absurd (let no : true ≡ false = sym e ∙ ap t (sym same) ∙ ty in cc)
    by rest (inr later) true ty = rw ty (contains_later y x (kept t ys) (rest later))
    by rest (inr later) false ty = rw ty (rest later)

pub from_kept : {A : Type 0} (t : A → Bool) (x : A) (xs : List A) → Contains (kept t xs) x → Contains xs x × (t x ≡ true)
from_kept t x [] c = absurd (none_in_nil x c)
from_kept t x (y ∷ ys) c = by (from_kept t x ys) (t y) refl
  where
    later : (Contains (kept t ys) x → Contains ys x × (t x ≡ true)) → Contains (kept t ys) x → Contains (y ∷ ys) x × (t x ≡ true)
    later rest d = let r = rest d in (contains_later y x ys r.0, r.1)

    first : (Contains (kept t ys) x → Contains ys x × (t x ≡ true)) → t y ≡ true → (y ≡ x) ⊎ Contains (kept t ys) x → Contains (y ∷ ys) x × (t x ≡ true)
    first rest ty (inl same) = (contains_first y x ys same, ap t (sym same) ∙ ty)
    first rest ty (inr d) = later rest d

    by : (Contains (kept t ys) x → Contains ys x × (t x ≡ true)) → (b : Bool) → t y ≡ b → Contains (y ∷ ys) x × (t x ≡ true)
    by rest true ty = first rest ty (contains_cases y x (kept t ys) (rw ty at c))
    by rest false ty = later rest (rw ty at c)

-- setting in order keeps the items
in_insert : {A : Type 0} (less : A → A → Bool) (x z : A) (ys : List A) → (x ≡ z) ⊎ Contains ys z → Contains (insert_in_order less x ys) z
in_insert less x z [] (inl e) = contains_first x z [] e
in_insert less x z [] (inr c) = absurd (none_in_nil z c)
in_insert less x z (y ∷ ys) c = by (λ d. in_insert less x z ys d) c (less y x) refl
  where
    inner : (x ≡ z) ⊎ Contains (y ∷ ys) z → (y ≡ z) ⊎ ((x ≡ z) ⊎ Contains ys z)
    inner (inl e) = inr (inl e)
    inner (inr d) = elim (contains_cases y z ys d) [ inl e ↦ inl e | inr l ↦ inr (inr l) ]

    place : ((x ≡ z) ⊎ Contains ys z → Contains (insert_in_order less x ys) z) → (y ≡ z) ⊎ ((x ≡ z) ⊎ Contains ys z) → Contains (y ∷ insert_in_order less x ys) z
    place rest (inl e) = contains_first y z (insert_in_order less x ys) e
    place rest (inr d) = contains_later y z (insert_in_order less x ys) (rest d)

    front : (x ≡ z) ⊎ Contains (y ∷ ys) z → Contains (x ∷ y ∷ ys) z
    front (inl e) = contains_first x z (y ∷ ys) e
    front (inr d) = contains_later x z (y ∷ ys) d

    by : ((x ≡ z) ⊎ Contains ys z → Contains (insert_in_order less x ys) z) → (x ≡ z) ⊎ Contains (y ∷ ys) z → (b : Bool) → less y x ≡ b → Contains (insert_in_order less x (y ∷ ys)) z
    by rest d true e = rw e (place rest (inner d))
    by rest d false e = rw e (front d)

from_insert : {A : Type 0} (less : A → A → Bool) (x z : A) (ys : List A) → Contains (insert_in_order less x ys) z → (x ≡ z) ⊎ Contains ys z
from_insert less x z [] c = contains_cases x z [] c
from_insert less x z (y ∷ ys) c = by (from_insert less x z ys) (less y x) refl
  where
    back : (x ≡ z) ⊎ Contains ys z → (x ≡ z) ⊎ Contains (y ∷ ys) z
    back (inl e) = inl e
    back (inr d) = inr (contains_later y z ys d)

    placed : (Contains (insert_in_order less x ys) z → (x ≡ z) ⊎ Contains ys z) → (y ≡ z) ⊎ Contains (insert_in_order less x ys) z → (x ≡ z) ⊎ Contains (y ∷ ys) z
    placed rest (inl e) = inr (contains_first y z ys e)
    placed rest (inr d) = back (rest d)

    by : (Contains (insert_in_order less x ys) z → (x ≡ z) ⊎ Contains ys z) → (b : Bool) → less y x ≡ b → (x ≡ z) ⊎ Contains (y ∷ ys) z
    by rest true e = placed rest (contains_cases y z (insert_in_order less x ys) (rw e at c))
    by rest false e = contains_cases x z (y ∷ ys) (rw e at c)

pub in_order-has : {A : Type 0} (less : A → A → Bool) (z : A) (xs : List A) → Contains xs z → Contains (in_order less xs) z
in_order-has less z [] c = absurd (none_in_nil z c)
in_order-has less z (x ∷ xs) c = in_insert less x z (in_order less xs) (by (in_order-has less z xs) (contains_cases x z xs c))
  where
    by : (Contains xs z → Contains (in_order less xs) z) → (x ≡ z) ⊎ Contains xs z → (x ≡ z) ⊎ Contains (in_order less xs) z
    by rest (inl e) = inl e
    by rest (inr d) = inr (rest d)

pub in_order-from : {A : Type 0} (less : A → A → Bool) (z : A) (xs : List A) → Contains (in_order less xs) z → Contains xs z
in_order-from less z [] c = absurd (none_in_nil z c)
in_order-from less z (x ∷ xs) c = by (in_order-from less z xs) (from_insert less x z (in_order less xs) c)
  where
    by : (Contains (in_order less xs) z → Contains xs z) → (x ≡ z) ⊎ Contains (in_order less xs) z → Contains (x ∷ xs) z
    by rest (inl e) = contains_first x z xs e
    by rest (inr d) = contains_later x z xs (rest d)

insert-map : {A B : Type 0} (less : B → B → Bool) (f : A → B) (x : A) (ys : List A) → insert_in_order less (f x) (map f ys) ≡ map f (insert_in_order (λ a b. less (f a) (f b)) x ys)
insert-map less f x [] = refl
insert-map less f x (y ∷ ys) =
    ap (λ l. cond (less (f y) (f x)) (f y ∷ l) (f x ∷ f y ∷ map f ys)) (insert-map less f x ys) ∙ step (less (f y) (f x))
  where
    step : (b : Bool) → cond b (f y ∷ map f (insert_in_order (λ a b. less (f a) (f b)) x ys)) (f x ∷ f y ∷ map f ys) ≡ map f (cond b (y ∷ insert_in_order (λ a b. less (f a) (f b)) x ys) (x ∷ y ∷ ys))
    step true = refl
    step false = refl

pub in_order-map : {A B : Type 0} (less : B → B → Bool) (f : A → B) (xs : List A) → in_order less (map f xs) ≡ map f (in_order (λ a b. less (f a) (f b)) xs)
in_order-map less f [] = refl
in_order-map less f (x ∷ xs) = ap (insert_in_order less (f x)) (in_order-map less f xs) ∙ insert-map less f x (in_order (λ a b. less (f a) (f b)) xs)

pub kept-map : {A B : Type 0} (t : B → Bool) (f : A → B) (xs : List A) → kept t (map f xs) ≡ map f (kept (λ x. t (f x)) xs)
kept-map t f [] = refl
kept-map t f (x ∷ xs) = ap (λ l. cond (t (f x)) (f x ∷ l) l) (kept-map t f xs) ∙ step (t (f x))
  where
    step : (b : Bool) → cond b (f x ∷ map f (kept (λ y. t (f y)) xs)) (map f (kept (λ y. t (f y)) xs)) ≡ map f (cond b (x ∷ kept (λ y. t (f y)) xs) (kept (λ y. t (f y)) xs))
    step true = refl
    step false = refl

-- where the numbers of a list's items are those from 0 on, the item at a place has its number
pub number_at : {A : Type 0} (f : A → ℕ) (xs : List A) (i : ℕ) (x : A) → map f xs ≡ below (length xs) → slice_get xs i ≡ Some x → f x ≡ i
number_at f xs i x e at =
    let within = slice_get_within xs i x at in
    sym (get_or_from_slice_get (map f xs) i (f x) 0 (map_at f xs i x at)) ∙ ap (λ l. get_or l i 0) e ∙ get_or-below (length xs) i 0 within

pub set_here : {A : Type 0} (xs : List A) (k : ℕ) (old new : A) → slice_get xs k ≡ Some old → slice_get (slice_set xs k new) k ≡ Some new
set_here [] k old new e = absurd (let no : None ≡ Some old = e in cc)
set_here (x ∷ xs) zero old new e = refl
set_here (x ∷ xs) (suc k) old new e = set_here xs k old new e

pub set_other : {A : Type 0} (xs : List A) (k j : ℕ) (new : A) → j ≢ k → slice_get (slice_set xs k new) j ≡ slice_get xs j
set_other [] k j new h = refl
set_other (x ∷ xs) zero zero new h = absurd (h refl)
set_other (x ∷ xs) zero (suc j) new h = refl
set_other (x ∷ xs) (suc k) zero new h = refl
set_other (x ∷ xs) (suc k) (suc j) new h = set_other xs k j new (λ e. h (ap suc e))
