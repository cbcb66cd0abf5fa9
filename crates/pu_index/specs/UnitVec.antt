-- A short vector, as contracts see it.
use Rattle.std.specs.Prelude.{◌≡◌, ℕ, ◌*◌, ◌≤◌, List, [], max, if◌then◌else◌, nat_le, Option, MatchOption, vec_capacity}
use Rattle.std.specs.declared.vec.Vec.{Vec}

-- the items, and how many fit without memory
pub record Short (T : Type 0) : Type 0 where
  pub items : List T
  pub capacity : ℕ

abbrev pub short : {T : Type 0} → List T → ℕ → Short T
short xs n = record { items = xs; capacity = n }

-- an item lies inline only where the memory has no room for two; then the memory holds none
pub record IsUnit {T A : Type 0} (inline : Option T) (heap : Vec T A) : Type 0 where
  pub apart : MatchOption inline (Unit {0}) (λ _. vec_capacity heap ≤ 1)
  pub unused : vec_capacity heap ≤ 1 → heap.items ≡ []

-- the capacity of one that has room for `needed` items
abbrev pub grown : ℕ → ℕ → ℕ
grown capacity needed = if nat_le needed capacity then capacity else max (max (2 * capacity) needed) 8
