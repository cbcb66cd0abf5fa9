-- Lemmas on a function with a cache of its answers.
use Rattle.std.proofs.Common.{◌≡◌, ℕ, zero, suc, List, [], ◌∷◌, set, Option, Some, None, IfSome}
use Rattle.std.specs.Fn.{Mut, Called, AlwaysReturns}
use Rattle.pu_map.specs.declared.cache.CacheSlot.{CacheSlot}
use Rattle.pu_map.specs.Cache.{CacheState, slot_at, aged, looked_up}

module _ {T R F : Type 0} (g : Mut F (T × Unit {0}) R) (answer : T → R) where
  -- a call's answer, and that the next calls answer too
  pub called : (f f' : F) (x : T) (r : R) → AlwaysReturns g (λ a y. y ≡ answer a.0) f → Called g f (x, tt) r f' → (r ≡ answer x) × AlwaysReturns g (λ a y. y ≡ answer a.0) f'
  called f f' x r always call = ((always.at ((x, tt) ∷ []) r f' call).0, record { at = λ xs. (always.at ((x, tt) ∷ xs) r f' call).1 })

module _ {T R : Type 0} (answer : T → R) where
  abbrev pub Agrees : Option (CacheSlot T R) → Type 0
  Agrees s = IfSome s (λ held. held.value ≡ answer held.key)

  pub agrees-set : (slots : List (Option (CacheSlot T R))) (i : ℕ) (s : Option (CacheSlot T R)) → ((j : ℕ) → Agrees (slot_at slots j)) → Agrees s → (j : ℕ) → Agrees (slot_at (set slots i s) j)
  agrees-set [] i s all new j = all j
  agrees-set (x ∷ slots) zero s all new zero = new
  agrees-set (x ∷ slots) zero s all new (suc j) = all (suc j)
  agrees-set (x ∷ slots) (suc i) s all new zero = all zero
  agrees-set (x ∷ slots) (suc i) s all new (suc j) = agrees-set slots i s (λ k. all (suc k)) new j

  agrees-aged : (age : ℕ) (s : Option (CacheSlot T R)) → Agrees s → Agrees (aged age s)
  agrees-aged age None agrees = agrees
  agrees-aged age (Some s) agrees = agrees

  pub agrees-looked_up : (c : CacheState T R) (place : Option ℕ) → ((j : ℕ) → Agrees (slot_at c.slots j)) → (j : ℕ) → Agrees (slot_at (looked_up c place).slots j)
  agrees-looked_up c None all = all
  agrees-looked_up c (Some i) all = agrees-set c.slots i (aged c.counter (slot_at c.slots i)) all (agrees-aged c.counter (slot_at c.slots i) (all i))
