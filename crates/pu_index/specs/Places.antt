-- A row of places, each empty or holding a value.
use Rattle.std.specs.Prelude.{◌≡◌, ℕ, ◌+◌, ◌-◌, ◌<◌, ◌≤◌, get_or, ◌⊎◌, List, [], ◌∷◌, ◌++◌, map, length, take, drop, replicate, Option, Some, None}

module _ {X : Type 0} where
  -- the place at the index is empty
  abbrev pub IsEmptyAt : List (Option X) → ℕ → Type 0
  IsEmptyAt cs i = (i < length cs) × (get_or cs i None ≡ None)

  -- the place at the index holds a value
  abbrev pub IsFilledAt : List (Option X) → ℕ → Type 0
  IsFilledAt cs i = (x : X) × (get_or cs i None ≡ Some x)

  -- the len places from the index from on hold values
  abbrev pub IsRun : List (Option X) → ℕ → ℕ → Type 0
  IsRun cs from len = (from + len ≤ length cs) × ((xs : List X) × (take len (drop from cs) ≡ map Some xs))

  -- the values that are there
  abbrev pub somes : List (Option X) → List X
  somes [] = []
  somes (None ∷ cs) = somes cs
  somes (Some x ∷ cs) = x ∷ somes cs

  -- n places that begin with the items
  unfoldable pub filled : List X → ℕ → List (Option X)
  filled xs n = map Some xs ++ replicate (n - length xs) None

-- the list read from the index start on, and round its end
unfoldable pub from_start : {X : Type 0} → ℕ → List X → List X
from_start start xs = drop start xs ++ take start xs

-- p is `(start + i) % n`, where start + i is below 2 * n
abbrev pub Wraps : ℕ → ℕ → ℕ → ℕ → Type 0
Wraps start i n p = (p < n) × ((p ≡ start + i) ⊎ (p + n ≡ start + i))
