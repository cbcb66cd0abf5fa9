use Rattle.std.proofs.Common.{◌≡◌, ℕ, ◌≤◌, vec_len}
use Rattle.std.specs.Vec.{vec_capacity}
use Rattle.keyed_slots.specs.Slots.{value_at}
use Rattle.keyed_slots.proofs.slot.grow.Given as goal

-- there is room up to `len`, and what was added is empty
abbrev pub invariant-empties : goal.invariant-empties
invariant-empties g l =
    (vec_len l.slots ≡ l.counter)
    × (l.len ≤ vec_capacity l.slots)
    × (vec_capacity l.fn.slots ≤ vec_capacity l.slots)
    × ((number : ℕ) → value_at l.slots.items number ≡ value_at l.fn.slots.items number)
