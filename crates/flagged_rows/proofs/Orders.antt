-- What passes a test, of a list in another order.
use Rattle.std.proofs.Common.{◌≡◌, ℕ, zero, suc, ◌<◌, Bool, true, false, cond, List, [], ◌∷◌, length, get_or, ap, subst, arith}
use Rattle.std.specs.Prelude.{filter, map}
use Rattle.std.specs.List.Sorted.{IsPermutation}
use Rattle.std.proofs.Math.ListN.{set}
use Rattle.std.proofs.lemmas.List.Edits.{swap_is}
use Rattle.std.proofs.lemmas.List.Sorted.{IsPermutation-cons, IsPermutation-keeps, IsPermutation-map, IsPermutation-middle, IsPermutation-refl, IsPermutation-trans, length_permutation}
use Rattle.ps_meaning.specs.Orders.{IsOrder}

-- an item of a list that has one
some_item : {X : Type 0} (xs : List X) (i : ℕ) → i < length xs → X
some_item [] i lt = absurd (omega arith)
some_item (x ∷ xs) i lt = x

module _ {X : Type 0} (p : X → Bool) where
  abbrev Alike : List X → List X → Type 0
  Alike xs ys = IsPermutation (filter p xs) (filter p ys)

  behind : (x : X) (xs ys : List X) → Alike xs ys → Alike (x ∷ xs) (x ∷ ys)
  behind x xs ys h = by (p x)
    where
      by : (b : Bool) → IsPermutation (cond b (x ∷ filter p xs) (filter p xs)) (cond b (x ∷ filter p ys) (filter p ys))
      by true = IsPermutation-cons x (filter p xs) (filter p ys) h
      by false = h

  first_two : (x y : X) (xs : List X) → Alike (x ∷ y ∷ xs) (y ∷ x ∷ xs)
  first_two x y xs = by (p x) (p y)
    where
      by : (b c : Bool) → IsPermutation (cond b (x ∷ cond c (y ∷ filter p xs) (filter p xs)) (cond c (y ∷ filter p xs) (filter p xs))) (cond c (y ∷ cond b (x ∷ filter p xs) (filter p xs)) (cond b (x ∷ filter p xs) (filter p xs)))
      by true true = IsPermutation-middle (x ∷ []) y (filter p xs)
      by true false = IsPermutation-refl (x ∷ filter p xs)
      by false true = IsPermutation-refl (y ∷ filter p xs)
      by false false = IsPermutation-refl (filter p xs)

  -- the first item exchanged with a later one
  with_first : (x d : X) (xs : List X) (j : ℕ) → j < length xs → Alike (x ∷ xs) (get_or xs j d ∷ set xs j x)
  with_first x d [] j lt = absurd (omega arith)
  with_first x d (y ∷ xs) zero lt = first_two x y xs
  with_first x d (y ∷ xs) (suc j) lt =
      let v = get_or xs j d in
      let a = first_two x y xs in
      let b = behind y (x ∷ xs) (v ∷ set xs j x) (with_first x d xs j (omega arith)) in
      let c = first_two y v (set xs j x) in
      IsPermutation-trans (filter p (x ∷ y ∷ xs)) (filter p (y ∷ x ∷ xs)) (filter p (v ∷ y ∷ set xs j x)) a (IsPermutation-trans (filter p (y ∷ x ∷ xs)) (filter p (y ∷ v ∷ set xs j x)) (filter p (v ∷ y ∷ set xs j x)) b c)

  -- any two
  exchanged : (d : X) (xs : List X) (i j : ℕ) → i < length xs → j < length xs → Alike xs (set (set xs i (get_or xs j d)) j (get_or xs i d))
  exchanged d [] i j lt gt = absurd (omega arith)
  exchanged d (x ∷ xs) zero zero lt gt = IsPermutation-refl (filter p (x ∷ xs))
  exchanged d (x ∷ xs) zero (suc j) lt gt = with_first x d xs j (omega arith)
  exchanged d (x ∷ xs) (suc i) zero lt gt = with_first x d xs i (omega arith)
  exchanged d (x ∷ xs) (suc i) (suc j) lt gt = behind x xs (set (set xs i (get_or xs j d)) j (get_or xs i d)) (exchanged d xs i j (omega arith) (omega arith))

  pub permuted : (xs ys : List X) → IsPermutation xs ys → Alike xs ys
  permuted xs ys =
      IsPermutation-keeps xs (λ l. Alike xs l) (IsPermutation-refl (filter p xs))
      (λ l i j lt gt h.
      let d : X = some_item l i lt in
      IsPermutation-trans (filter p xs) (filter p l) _ h (subst (λ w. Alike l w) (swap_is l i j d lt gt) (exchanged d l i j lt gt)))
      ys

-- an order of what passes
pub order_filter : {X : Type 0} (p : X → Bool) (m : Bool) (xs ys : List X) → IsOrder m xs ys → IsOrder m (filter p xs) (filter p ys)
order_filter p true xs ys h = ap (filter p) h
order_filter p false xs ys h = permuted p xs ys h

pub order_map : {A B : Type 0} (f : A → B) (m : Bool) (xs ys : List A) → IsOrder m xs ys → IsOrder m (map f xs) (map f ys)
order_map f true xs ys h = ap (map f) h
order_map f false xs ys h = IsPermutation-map f xs ys h

pub order_long : {X : Type 0} (m : Bool) (xs ys : List X) → IsOrder m xs ys → length ys ≡ length xs
order_long true xs ys h = ap length h
order_long false xs ys h = length_permutation xs ys h
