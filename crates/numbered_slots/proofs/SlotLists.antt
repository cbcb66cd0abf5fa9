-- Slots, by what stands in them: how many hold something, and where those that can be read end.
use Rattle.std.proofs.Common.{◌≡◌, ℕ, zero, suc, ◌+◌, ◌-◌, ◌≤◌, false, List, [], ◌∷◌, ◌++◌, length, map, set, slice_get, Option, Some, None, sym, ap, ◌∙◌, refl, arith, zero-add}
use Rattle.numbered_slots.specs.Numbered.{begins, there}

module _ {T : Type 0} where
  pub there-append : (xs ys : List (Option T)) → there (xs ++ ys) ≡ there xs + there ys
  there-append [] ys = sym (zero-add (there ys))
  there-append (None ∷ xs) ys = there-append xs ys
  there-append (Some x ∷ xs) ys = omega (arith, there-append xs ys)

  pub there_le : (xs : List (Option T)) → there xs ≤ length xs
  there_le [] = omega arith
  there_le (None ∷ xs) = omega (arith, there_le xs)
  there_le (Some x ∷ xs) = omega (arith, there_le xs)

  -- an empty slot that is filled
  pub there-filled : (xs : List (Option T)) (i : ℕ) (x : T) → slice_get xs i ≡ Some None → there (set xs i (Some x)) ≡ there xs + 1
  there-filled [] i x e = absurd (cc)
  there-filled (None ∷ xs) zero x e = refl
  there-filled (Some y ∷ xs) zero x e = absurd (cc)
  there-filled (None ∷ xs) (suc i) x e = there-filled xs i x e
  there-filled (Some y ∷ xs) (suc i) x e = omega (arith, there-filled xs i x e)

  pub there-place : (xs : List (Option T)) → there (xs ++ None ∷ []) ≡ there xs
  there-place xs = omega (arith, there-append xs (None ∷ []))

  pub there-last : (xs : List (Option T)) (x : T) → there (xs ++ Some x ∷ []) ≡ there xs + 1
  there-last xs x = omega (arith, there-append xs (Some x ∷ []))

  -- what can be read has something in each slot
  pub past_ready : (ready : List T) (behind : List (Option T)) (i : ℕ) → slice_get (map Some ready ++ behind) i ≡ Some None → (length ready ≤ i) × (slice_get behind (i - length ready) ≡ Some None)
  past_ready [] behind i e = let same : i - 0 ≡ i = omega arith in (omega arith, ap (slice_get behind) same ∙ e)
  past_ready (x ∷ ready) behind zero e = absurd (cc)
  past_ready (x ∷ ready) behind (suc i) e = let rest = past_ready ready behind i e in let same : suc i - length (x ∷ ready) ≡ i - length ready = omega arith in
      (omega (arith, rest.0), ap (slice_get behind) same ∙ rest.1)

  -- a place behind slots that don't begin with something
  pub begins-place : (xs : List (Option T)) → begins xs ≡ false → begins (xs ++ None ∷ []) ≡ false
  begins-place [] e = refl
  begins-place (x ∷ xs) e = e

  -- one more that can be read
  pub one_moved : (ready : List T) (x : T) (behind : List (Option T)) → map Some (ready ++ x ∷ []) ++ behind ≡ map Some ready ++ Some x ∷ behind
  one_moved [] x behind = refl
  one_moved (y ∷ ready) x behind = ap (λ l. Some y ∷ l) (one_moved ready x behind)

  pub begins-no_ready : (ready : List T) (behind : List (Option T)) → ready ≡ [] → begins behind ≡ false → begins (map Some ready ++ behind) ≡ false
  begins-no_ready [] behind e h = h
  begins-no_ready (x ∷ ready) behind e h = absurd (cc)

  pub set-past_ready : (ready : List T) (behind : List (Option T)) (i : ℕ) (slot : Option T) → length ready ≤ i → map Some ready ++ set behind (i - length ready) slot ≡ set (map Some ready ++ behind) i slot
  set-past_ready [] behind i slot h = let same : i - 0 ≡ i = omega arith in ap (λ k. set behind k slot) same
  set-past_ready (x ∷ ready) behind zero slot h = absurd (omega arith)
  set-past_ready (x ∷ ready) behind (suc i) slot h = let same : suc i - length (x ∷ ready) ≡ i - length ready = omega arith in
      ap (λ k. Some x ∷ (map Some ready ++ set behind k slot)) same ∙ ap (λ l. Some x ∷ l) (set-past_ready ready behind i slot (omega arith))
