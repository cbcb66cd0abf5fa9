-- Lemmas on the slots of a cache.
use Rattle.std.proofs.Common.{◌≡◌, ℕ, zero, suc, ◌<◌, List, [], ◌∷◌, ◌++◌, length, set, Option, Some, None, Ok, Result, IfSome, refl, sym, ap, ◌∙◌, subst, arith}
use Rattle.std.specs.Option.{option_map, UnwrapsOrElse}
use Rattle.pu_map.specs.declared.cache.CacheSlot.{CacheSlot}
use Rattle.pu_map.specs.Cache.{CacheState, slot_at, slot_with_value, aged, value_at, with_value, touched, filled, IsGot, counter_after}

module _ {K V : Type 0} where
  -- an empty slot more
  pub slot_at-push_empty : (slots : List (Option (CacheSlot K V))) (i : ℕ) → slot_at (slots ++ None ∷ []) i ≡ slot_at slots i
  slot_at-push_empty [] zero = refl
  slot_at-push_empty [] (suc i) = refl
  slot_at-push_empty (s ∷ slots) zero = refl
  slot_at-push_empty (s ∷ slots) (suc i) = slot_at-push_empty slots i

  -- a slot that was filled, with another value
  pub value-refilled : (slots : List (Option (CacheSlot K V))) (i : ℕ) (s : CacheSlot K V) (value : V) → i < length slots → set (set slots i (Some s)) i (slot_with_value (slot_at (set slots i (Some s)) i) value) ≡ set slots i (Some (record s { value = value }))
  value-refilled [] i s value within = absurd (omega arith)
  value-refilled (x ∷ slots) zero s value within = refl
  value-refilled (x ∷ slots) (suc i) s value within = ap (λ xs. x ∷ xs) (value-refilled slots i s value (omega arith))

  pub slot_at-set : (slots : List (Option (CacheSlot K V))) (i : ℕ) (s : Option (CacheSlot K V)) → i < length slots → slot_at (set slots i s) i ≡ s
  slot_at-set [] i s within = absurd (omega arith)
  slot_at-set (x ∷ slots) zero s within = refl
  slot_at-set (x ∷ slots) (suc i) s within = slot_at-set slots i s (omega arith)

  -- a slot that is hit keeps its value
  pub value-aged : (slots : List (Option (CacheSlot K V))) (i age : ℕ) → option_map (λ s. s.value) (slot_at (set slots i (aged age (slot_at slots i))) i) ≡ option_map (λ s. s.value) (slot_at slots i)
  value-aged [] i age = refl
  value-aged (Some s ∷ slots) zero age = refl
  value-aged (None ∷ slots) zero age = refl
  value-aged (x ∷ slots) (suc i) age = value-aged slots i age

  -- what is read from a slot that was filled is the value that was put in
  pub value-read : (slots : List (Option (CacheSlot K V))) (i : ℕ) (s : CacheSlot K V) (x : V) → option_map (λ s. s.value) (slot_at (set slots i (Some s)) i) ≡ Some x → (s.value ≡ x) × (i < length slots)
  value-read [] i s x read = absurd cc
  value-read (y ∷ slots) zero s x read = (cc, omega arith)
  value-read (y ∷ slots) (suc i) s x read =
      let rest = value-read slots i s x read in
      (rest.0, omega (arith, rest.1))

  module _ (Made : K → V → Type 0) (c n : CacheState K V) (free i : ℕ) (x : V) (read : value_at n.slots (Some i) ≡ Some x) where
    -- a value that was found, or else made and put in: what a write of it leaves, and what it is
    pub got : (E : Type 0) (place : Option ℕ) → IfSome place (λ p. ◌≡◌ {A = Result ℕ E} (Ok i) (Ok p) × (n ≡ touched c p)) → (place ≡ None → (i ≡ free) × ((key : K) × (value : V) × Made key value × (n ≡ filled c i key value))) → ((w : V) → IsGot (λ key. Made key x) c place free w (with_value n i w)) × UnwrapsOrElse (value_at c.slots place) (λ value. (key : K) × Made key value) x
    got E (Some p) hit miss =
        let at : i ≡ p = cc in
        let kept : value_at (touched c p).slots (Some p) ≡ value_at c.slots (Some p) = value-aged c.slots p c.counter in
        let found : value_at c.slots (Some p) ≡ Some x = sym kept ∙ ap (λ (m : CacheState K V). value_at m.slots (Some p)) (sym hit.1) ∙ ap (λ j. value_at n.slots (Some j)) (sym at) ∙ read in (
          λ w. ap (λ j. with_value n j w) at ∙ ap (λ m. with_value m p w) hit.1,
          subst (λ o. UnwrapsOrElse o (λ value. (key : K) × Made key value) x) (sym found) refl,
        )
    got E None hit miss =
        let put = miss refl in
        let key = put.1.0 in
        let value = put.1.1 in
        let after : n ≡ filled c i key value = put.1.3 in
        let held = value-read c.slots i (record { last_access = c.counter; key = key; value = value }) x (ap (λ (m : CacheState K V). value_at m.slots (Some i)) (sym after) ∙ read) in
        let made : Made key x = subst (λ v. Made key v) held.0 put.1.2 in (
          λ w. (key, made, ap (λ m. with_value m i w) after ∙ ap (λ slots. record { slots = slots; counter = counter_after c.counter }) (value-refilled c.slots i (record { last_access = c.counter; key = key; value = value }) w held.1) ∙ ap (λ j. filled c j key w) put.0),
          (key, made),
        )
