-- Lemmas on the slots of a map.
use Rattle.std.proofs.Common.{◌≡◌, ◌≢◌, ℕ, zero, suc, ◌+◌, ◌<◌, List, [], ◌∷◌, ◌++◌, length, set, count_by, cond, Option, Some, None, is_some, refl, sym, ap, add-zero, arith, Bool, true, false, not, eqb, eq-eqb, filter, inl, inr}
use Rattle.std.proofs.lemmas.List.{get_or-set_same, get_or-set_other}
use Rattle.std.proofs.lemmas.Bool.Decides.{eqb_tells}
use Rattle.std.proofs.lemmas.List.Sums.{sum_by-cons}
use Rattle.keyed_slots.specs.Slots.{value_at, Updates, live_from, live}

eqb-differs : (a b : ℕ) → a ≢ b → eqb a b ≡ false
eqb-differs a b differs = elim (eqb_tells a b) [ inl p ↦ absurd (differs p.1) | inr p ↦ p.0 ]

module _ {V : Type 0} where
  -- an empty slot more is as none
  pub value_at-push_empty : (slots : List (Option V)) (number : ℕ) → value_at (slots ++ None ∷ []) number ≡ value_at slots number
  value_at-push_empty [] zero = refl
  value_at-push_empty [] (suc n) = refl
  value_at-push_empty (slot ∷ rest) zero = refl
  value_at-push_empty (slot ∷ rest) (suc n) = value_at-push_empty rest n

  -- a write of one slot changes what that number finds, and no other
  pub Updates-set : (old : List (Option V)) (number : ℕ) (slot : Option V) → number < length old → Updates old (set old number slot) number slot
  Updates-set old number slot within =
      record {
        changed = get_or-set_same old number slot None within;
        others = λ other differs. get_or-set_other old number other slot None differs;
      }

module _ {K V : Type 0} (key_of : ℕ → K) where
  -- there is one pair for each slot with a value
  pub length-live_from : (number : ℕ) (slots : List (Option V)) → length (live_from key_of number slots) ≡ count_by is_some slots
  length-live_from number [] = refl
  length-live_from number (None ∷ rest) = omega (arith, length-live_from (number + 1) rest, sum_by-cons (λ o. cond (is_some o) 1 0) None rest)
  length-live_from number (Some value ∷ rest) = omega (arith, length-live_from (number + 1) rest, sum_by-cons (λ o. cond (is_some o) 1 0) (Some value) rest)

  -- one value more is one pair more, at the end
  pub live_from-push : (number : ℕ) (slots : List (Option V)) (value : V) → live_from key_of number (slots ++ Some value ∷ []) ≡ live_from key_of number slots ++ (key_of (number + length slots), value) ∷ []
  live_from-push number [] value = rw add-zero refl
  live_from-push number (None ∷ rest) value =
      let shift : number + 1 + length rest ≡ number + suc (length rest) = omega arith in
      rw (live_from-push (number + 1) rest value, shift)
  live_from-push number (Some other ∷ rest) value =
      let shift : number + 1 + length rest ≡ number + suc (length rest) = omega arith in
      rw (live_from-push (number + 1) rest value, shift)

module _ {K V : Type 0} (number_of : K → ℕ) (key_of : ℕ → K) (number_of_key : (n : ℕ) → number_of (key_of n) ≡ n) where
  -- the pair is not that of this number
  abbrev pub is_other : ℕ → K × V → Bool
  is_other target p = not (eqb (number_of p.0) target)

  is_other-differs : (target number : ℕ) (value : V) → number ≢ target → is_other target (key_of number, value) ≡ true
  is_other-differs target number value differs = rw number_of_key (ap not (eqb-differs number target differs))

  is_other-same : (target number : ℕ) (value : V) → number ≡ target → is_other target (key_of number, value) ≡ false
  is_other-same target number value same = rw number_of_key (ap not (eq-eqb number target same))

  -- a number before the first of the slots has no pair
  all_other : (number target : ℕ) (slots : List (Option V)) → target < number → filter (is_other target) (live_from key_of number slots) ≡ live_from key_of number slots
  all_other number target [] below = refl
  all_other number target (None ∷ rest) below = all_other (number + 1) target rest (omega arith)
  all_other number target (Some value ∷ rest) below =
      let differs : number ≢ target = omega arith in
      rw (is_other-differs target number value differs, all_other (number + 1) target rest (omega arith)) refl

  live_from-removed : (number at target : ℕ) (slots : List (Option V)) → target ≡ number + at → live_from key_of number (set slots at None) ≡ filter (is_other target) (live_from key_of number slots)
  live_from-removed number at target [] e = refl
  live_from-removed number zero target (None ∷ rest) e = sym (all_other (number + 1) target rest (omega arith))
  live_from-removed number zero target (Some value ∷ rest) e =
      let same : number ≡ target = omega arith in
      rw (is_other-same target number value same) (sym (all_other (number + 1) target rest (omega arith)))
  live_from-removed number (suc at) target (None ∷ rest) e = live_from-removed (number + 1) at target rest (omega arith)
  live_from-removed number (suc at) target (Some value ∷ rest) e =
      let differs : number ≢ target = omega arith in
      rw (is_other-differs target number value differs, live_from-removed (number + 1) at target rest (omega arith)) refl

  -- what is left once the slot of a number is empty
  pub live-removed : (slots : List (Option V)) (number : ℕ) → live key_of (set slots number None) ≡ filter (λ p. not (eqb (number_of p.0) number)) (live key_of slots)
  live-removed slots number = live_from-removed 0 number number slots (omega arith)
