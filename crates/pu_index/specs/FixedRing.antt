-- A ring of a fixed capacity, as contracts see it.
use Rattle.std.specs.Prelude.{ℕ, ◌-◌, List, length}

-- the items, the oldest first, and how many there may be
pub record FixedRing (T : Type 0) : Type 0 where
  pub items : List T
  pub capacity : ℕ

abbrev pub ring : {T : Type 0} → List T → ℕ → FixedRing T
ring xs n = record { items = xs; capacity = n }

-- how many more items fit
abbrev pub room : {T : Type 0} → FixedRing T → ℕ
room r = r.capacity - length r.items
