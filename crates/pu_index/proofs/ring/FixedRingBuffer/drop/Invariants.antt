use Rattle.std.proofs.Common.{length}
use Rattle.pu_index.proofs.ring.FixedRingBuffer.drop.Given as goal

abbrev pub invariant-loop : goal.invariant-loop
invariant-loop g l = Unit {0}

abbrev pub decreases-loop : goal.decreases-loop
decreases-loop g l = length l.self.items
