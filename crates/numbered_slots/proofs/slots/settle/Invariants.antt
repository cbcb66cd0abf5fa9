-- What stands there in order stays as it was.
use Rattle.std.proofs.Common.{◌≡◌}
use Rattle.numbered_slots.specs.Laid.{laid}
use Rattle.numbered_slots.proofs.slots.settle.Given as goal

abbrev pub invariant-loop-behind : goal.invariant-loop-behind
invariant-loop-behind g l = record { same : laid l.ready.items l.behind.items ≡ laid l.fn.ready.items l.fn.behind.items; capacity : l.ready.capacity ≡ l.fn.ready.capacity }

abbrev pub decreases-loop-behind : goal.decreases-loop-behind
decreases-loop-behind g l = l.behind.len
