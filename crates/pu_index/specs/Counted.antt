-- An iterator that numbers the items of another.
use Rattle.std.specs.Prelude.{◌≡◌, ℕ, ℤ, pos, ◌+ℤ◌, ◌≤ℤ◌, Option, Some, None, MatchOption}
use Rattle.pu_index.specs.declared.iterators.EnumerateIdx.{EnumerateIdx}

-- the iterator whose items are numbered, and the next number
abbrev pub source : {I N : Type 0} → EnumerateIdx I N → I
source s = s.iter

abbrev pub number : {I N : Type 0} → EnumerateIdx I N → N
number s = s.count

-- x is from 0 up, and its type has the n numbers from x on and the one behind them
abbrev pub HasNumbers : {N : Type 0} → (N → ℤ) → (ℤ → Type 0) → N → ℕ → Type 0
HasNumbers value fits x n = (pos 0 ≤ℤ value x) × fits (value x +ℤ pos n)

module _ {I A N : Type 0} (value : N → ℤ) (steps : I → Option A → I → Type 0) where
  abbrev pub counted_steps : EnumerateIdx I N → Option (N × A) → EnumerateIdx I N → Type 0
  counted_steps s r t = MatchOption r (steps (source s) None (source t) × (number t ≡ number s))
      (λ p. steps (source s) (Some p.1) (source t) × (p.0 ≡ number s) × (value (number t) ≡ value (number s) +ℤ pos 1))

  -- from the back, an item's number is the next one plus how many items are left before it
  abbrev pub counted_steps_back : (I → ℕ) → EnumerateIdx I N → Option (N × A) → EnumerateIdx I N → Type 0
  counted_steps_back left s r t = (number t ≡ number s) × MatchOption r (steps (source s) None (source t))
      (λ p. steps (source s) (Some p.1) (source t) × (value p.0 ≡ value (number s) +ℤ pos (left (source t))))
