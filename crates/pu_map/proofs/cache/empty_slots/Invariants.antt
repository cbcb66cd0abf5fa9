use Rattle.std.proofs.Common.{◌≡◌, ℕ, ◌≤◌, None, vec_len}
use Rattle.std.specs.Vec.{vec_capacity}
use Rattle.pu_map.specs.Cache.{slot_at}
use Rattle.pu_map.proofs.cache.empty_slots.Given as goal

-- there is room for all, and what was added is empty
abbrev pub invariant-empties : goal.invariant-empties
invariant-empties g l =
    (vec_len l.slots ≡ l.counter)
    × (l.count ≤ vec_capacity l.slots)
    × ((i : ℕ) → slot_at l.slots.items i ≡ None)
