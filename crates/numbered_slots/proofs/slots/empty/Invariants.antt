-- The ring stays as large.
use Rattle.std.proofs.Common.{◌≡◌, length}
use Rattle.numbered_slots.proofs.slots.empty.Given as goal

abbrev pub invariant-loop-item : goal.invariant-loop-item
invariant-loop-item g l = l.ready.capacity ≡ l.fn.ready.capacity

abbrev pub decreases-loop-item : goal.decreases-loop-item
decreases-loop-item g l = length l.ready.items
