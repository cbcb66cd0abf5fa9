-- Membership in lists that grow at the end.
use Rattle.std.proofs.Common.{◌≡◌, ◌≢◌, ℕ, zero, suc, ◌<◌, ◌≤◌, ◌⊎◌, inl, inr, List, [], ◌∷◌, ◌++◌, length, take, get_or, slice_get, set, refl, sym, ◌∙◌, ap, subst, arith, length-append, take_at}
use Rattle.std.specs.Prelude.{Some, None, Contains}
use Rattle.std.proofs.lemmas.List.{get_or_append_left, take-append-le}
use Rattle.std.proofs.lemmas.List.Quantifiers.{all_pairs_push}
use Rattle.std.proofs.lemmas.Option.{slice_get_within, slice_get-get_or, get_or_from_slice_get}
use Rattle.valid_plans.specs.Surveys.{NamedFirst, Once}

pub same-or-not : (m n : ℕ) → (m ≡ n) ⊎ (m ≢ n)
same-or-not zero zero = inl refl
same-or-not zero (suc n) = inr (λ e. omega (arith, e))
same-or-not (suc m) zero = inr (λ e. omega (arith, e))
same-or-not (suc m) (suc n) = by (same-or-not m n)
  where
    by : (m ≡ n) ⊎ (m ≢ n) → (suc m ≡ suc n) ⊎ (suc m ≢ suc n)
    by (inl e) = inl (ap (λ k. suc k) e)
    by (inr d) = inr (λ e. d (omega (arith, e)))

module _ {X : Type 0} where
  pub slice_get-set_same : (xs : List X) (i : ℕ) (w : X) → i < length xs → slice_get (set xs i w) i ≡ Some w
  slice_get-set_same [] i w h = absurd (omega arith)
  slice_get-set_same (x ∷ xs) zero w h = refl
  slice_get-set_same (x ∷ xs) (suc i) w h = slice_get-set_same xs i w (omega arith)

  pub slice_get-set_other : (xs : List X) (i j : ℕ) (w : X) → j ≢ i → slice_get (set xs i w) j ≡ slice_get xs j
  slice_get-set_other [] i j w h = refl
  slice_get-set_other (x ∷ xs) zero zero w h = absurd (h refl)
  slice_get-set_other (x ∷ xs) zero (suc j) w h = refl
  slice_get-set_other (x ∷ xs) (suc i) zero w h = refl
  slice_get-set_other (x ∷ xs) (suc i) (suc j) w h = slice_get-set_other xs i j w (λ e. h (ap (λ k. suc k) e))

  pub slice_get-end : (xs : List X) (y : X) (i : ℕ) (z : X) → slice_get (xs ++ y ∷ []) i ≡ Some z → ((i < length xs) × (slice_get xs i ≡ Some z)) ⊎ ((i ≡ length xs) × (y ≡ z))
  slice_get-end [] y zero z e = inr (refl, cc)
  slice_get-end [] y (suc i) z e = cc
  slice_get-end (x ∷ xs) y zero z e = inl (omega arith, e)
  slice_get-end (x ∷ xs) y (suc i) z e = by (slice_get-end xs y i z e)
    where
      by : ((i < length xs) × (slice_get xs i ≡ Some z)) ⊎ ((i ≡ length xs) × (y ≡ z)) → ((suc i < suc (length xs)) × (slice_get xs i ≡ Some z)) ⊎ ((suc i ≡ suc (length xs)) × (y ≡ z))
      by (inl h) = inl (omega (arith, h.0), h.1)
      by (inr h) = inr (ap (λ k. suc k) h.0, h.1)

  pub length-from_none : (xs : List X) (k : ℕ) → slice_get xs k ≡ None → length xs ≤ k
  length-from_none [] k e = omega arith
  length-from_none (x ∷ xs) zero e = cc
  length-from_none (x ∷ xs) (suc k) e = let h = length-from_none xs k e in omega (arith, h)

  -- an element stands somewhere
  pub at-from : (xs : List X) (x : X) → Contains xs x → (k : ℕ) × (k < length xs) × (slice_get xs k ≡ Some x)
  at-from xs x h = (h.0, h.1, slice_get-get_or xs h.0 x h.1 ∙ ap (λ y. Some y) h.2)

  pub from-at : (xs : List X) (k : ℕ) (x : X) → slice_get xs k ≡ Some x → Contains xs x
  from-at xs k x e = (k, slice_get_within xs k x e, get_or_from_slice_get xs k x x e)

pub once-push : (xs : List ℕ) (x : ℕ) → Once xs → ¬ Contains xs x → Once (xs ++ x ∷ [])
once-push xs x o h = all_pairs_push (λ a b. a ≢ b) xs x o (λ k d l e. h (k, l, other k d l e))
  where
    other : (k d : ℕ) → k < length xs → get_or xs k d ≡ x → get_or xs k x ≡ x
    other k d l e = let g = slice_get-get_or xs k d l ∙ ap (λ y. Some y) e in get_or_from_slice_get xs k x x g

pub once-front : (xs : List ℕ) (x : ℕ) → Once (xs ++ x ∷ []) → Once xs
once-front xs x o i j d h l e =
    let m = length-append xs (x ∷ []) in
    o i j d h (omega (arith, m, l)) (get_or_append_left xs (x ∷ []) d i (omega arith) ∙ e ∙ sym (get_or_append_left xs (x ∷ []) d j l))

pub once-last : (xs : List ℕ) (x y : ℕ) → Once (xs ++ x ∷ []) → Contains xs y → y ≢ x
once-last xs x y o h e =
    let m = length-append xs (x ∷ []) in
    let l : h.0 < length xs = h.1 in
    o h.0 (length xs) y l (omega (arith, m)) (get_or_append_left xs (x ∷ []) y h.0 l ∙ h.2 ∙ e ∙ sym (get_or_at-end xs x y))
  where
    get_or_at-end : (xs : List ℕ) (x d : ℕ) → get_or (xs ++ x ∷ []) (length xs) d ≡ x
    get_or_at-end [] x d = refl
    get_or_at-end (z ∷ xs) x d = get_or_at-end xs x d

pub first-push : (next : ℕ → List ℕ) (order : List ℕ) (n : ℕ) → NamedFirst next order → ((m : ℕ) → Contains (next n) m → Contains order m) → NamedFirst next (order ++ n ∷ [])
first-push next order n first all i a m e c = by (slice_get-end order n i a e)
  where
    by : ((i < length order) × (slice_get order i ≡ Some a)) ⊎ ((i ≡ length order) × (n ≡ a)) → Contains (take i (order ++ n ∷ [])) m
    by (inl h) = let l : i ≤ length order = omega (arith, h.0) in subst (λ xs. Contains xs m) (sym (take-append-le i order (n ∷ []) l)) (first i a m h.1 c)
    by (inr h) = subst (λ xs. Contains xs m) (sym (take_at order (n ∷ []) i (sym h.0))) (all m (subst (λ b. Contains (next b) m) (sym h.1) c))
