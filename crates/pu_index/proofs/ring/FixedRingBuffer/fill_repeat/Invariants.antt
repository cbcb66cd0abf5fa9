use Rattle.std.proofs.Common.{◌≡◌, ◌++◌, replicate}
use Rattle.pu_index.specs.FixedRing.{ring}
use Rattle.pu_index.proofs.ring.FixedRingBuffer.fill_repeat.Given as goal

abbrev pub invariant-loop-added : goal.invariant-loop-added
invariant-loop-added g l = l.self ≡ ring (l.initial.self.items ++ replicate l._added l.value) l.initial.self.capacity
