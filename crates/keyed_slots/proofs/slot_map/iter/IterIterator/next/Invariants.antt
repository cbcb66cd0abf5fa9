use Rattle.std.proofs.Common.{◌≡◌, ◌+◌, ◌<◌, ◌^◌, length}
use Rattle.keyed_slots.specs.Slots.{live_from}
use Rattle.keyed_slots.proofs.slot_map.iter.IterIterator.next.Given as goal

-- only slots without a value were passed over
abbrev pub invariant-loop-slot : goal.invariant-loop-slot
invariant-loop-slot g l =
    (l.self-inside.number + length l.self-inside.slots.now < 2 ^ 32)
    × (live_from g.K.Key.key_of l.self-inside.number l.self-inside.slots.now ≡ l.fn.self)

abbrev pub decreases-loop-slot : goal.decreases-loop-slot
decreases-loop-slot g l = length l.self-inside.slots.now
