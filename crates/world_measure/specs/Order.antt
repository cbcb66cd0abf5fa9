-- An order of lists of numbers, and what it means that an order ends.
use Rattle.std.specs.Prelude.{◌≡◌, ℕ, ◌<◌, ◌⊎◌, List, [], ◌∷◌, length}

-- Of two lists of one length the smaller is the one whose number is smaller at the first place where they differ.
abbrev pub IsLess : List ℕ → List ℕ → Type 0
IsLess [] bs = ⊥
IsLess (a ∷ ls) [] = ⊥
IsLess (a ∷ ls) (b ∷ bs) = ((a < b) × (length ls ≡ length bs)) ⊎ ((a ≡ b) × IsLess ls bs)

-- From here on whatever goes down comes to an end: each chain of items, each below the one before, is finite.
pub data Ends {A : Type 0} (Below : A → A → Type 0) : A → Type 0 where
  ends : (x : A) → ((y : A) → Below y x → Ends Below y) → Ends Below x
