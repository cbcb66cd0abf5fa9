-- How long the tables of nodes are wanted.
use Rattle.std.specs.Prelude.{◌≡◌, ◌≤◌, ℕ, List, Some, Contains, get_or, slice_get}

-- each number is wanted at least up to the last place of the order that names it
abbrev pub IsWantedUntil : (ℕ → List ℕ) → List ℕ → List ℕ → Type 0
IsWantedUntil next order until = (i n m : ℕ) → slice_get order i ≡ Some n → Contains (next n) m → i ≤ get_or until m 0
