-- Lists with one more item.
use Rattle.std.proofs.Common.{◌≡◌, ℕ, zero, suc, ◌+◌, ◌<◌, List, [], ◌∷◌, ◌++◌, length, map, get_or, take, refl, sym, ap, ◌∙◌}
use Rattle.std.specs.Prelude.{Some, slice_get}
use Rattle.std.specs.List.{AllByRecursion}
use Rattle.std.proofs.lemmas.List.{map_push, take_more}

-- what stands in a list stays where it stands, and the last item comes behind it
pub front-kept : {A : Type 0} (xs : List A) (x : A) (i : ℕ) (y : A) → slice_get xs i ≡ Some y → slice_get (xs ++ x ∷ []) i ≡ slice_get xs i
front-kept [] x i y e = absurd (cc)
front-kept (z ∷ zs) x zero y e = refl
front-kept (z ∷ zs) x (suc i) y e = front-kept zs x i y e

pub last-there : {A : Type 0} (xs : List A) (x : A) → slice_get (xs ++ x ∷ []) (length xs) ≡ Some x
last-there [] x = refl
last-there (y ∷ ys) x = last-there ys x

-- what holds of each item of two lists together holds in each
pub all-left : {A : Type 0} (P : A → Type 0) (xs ys : List A) → AllByRecursion P (xs ++ ys) → AllByRecursion P xs
all-left P [] ys h = tt
all-left P (x ∷ xs) ys h = (h.0, all-left P xs ys h.1)

pub all-right : {A : Type 0} (P : A → Type 0) (xs ys : List A) → AllByRecursion P (xs ++ ys) → AllByRecursion P ys
all-right P [] ys h = h
all-right P (x ∷ xs) ys h = all-right P xs ys h.1

pub all-both : {A : Type 0} (P : A → Type 0) (xs ys : List A) → AllByRecursion P xs → AllByRecursion P ys → AllByRecursion P (xs ++ ys)
all-both P [] ys h k = k
all-both P (x ∷ xs) ys h k = (h.0, all-both P xs ys h.1 k)

-- what holds of each f of an item holds of the list of these
pub all-map : {A B : Type 0} (P : B → Type 0) (f : A → B) → ((x : A) → P (f x)) → (xs : List A) → AllByRecursion P (map f xs)
all-map P f h [] = tt
all-map P f h (x ∷ xs) = (h x, all-map P f h xs)

-- one more item that is mapped
pub map-more : {A B C : Type 0} (f : A → C) (g : B → C) (xs : List A) (a : A) (bs : List B) (i : ℕ) (b : B) → i < length bs → b ≡ get_or bs i b → map f xs ≡ map g (take i bs) → f a ≡ g b → map f (xs ++ a ∷ []) ≡ map g (take (i + 1) bs)
map-more f g xs a bs i b within is so_far one =
    map_push f xs a
    ∙ (λ j. so_far j ++ one j ∷ [])
    ∙ sym (map_push g (take i bs) b)
    ∙ ap (map g) (sym (take_more bs i b within ∙ ap (λ y. take i bs ++ y ∷ []) (sym is)))

-- a list that is mapped twice
pub map-map : {A B C : Type 0} (g : B → C) (f : A → B) (xs : List A) → map g (map f xs) ≡ map (λ x. g (f x)) xs
map-map g f [] = refl
map-map g f (x ∷ xs) = ap (λ ys. g (f x) ∷ ys) (map-map g f xs)

-- one more item that is mapped twice
pub map-more-twice : {A B C D : Type 0} (f : A → D) (g : C → D) (h : B → C) (xs : List A) (a : A) (bs : List B) (i : ℕ) (b : B) → i < length bs → b ≡ get_or bs i b → map f xs ≡ map g (map h (take i bs)) → f a ≡ g (h b)
    → map f (xs ++ a ∷ []) ≡ map g (map h (take (i + 1) bs))
map-more-twice f g h xs a bs i b within is so_far one =
    map-more f (λ x. g (h x)) xs a bs i b within is (so_far ∙ map-map g h (take i bs)) one ∙ sym (map-map g h (take (i + 1) bs))
