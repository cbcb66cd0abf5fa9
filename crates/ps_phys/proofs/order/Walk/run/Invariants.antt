use Rattle.std.proofs.Common.{ℕ, length}
use Rattle.ps_phys.specs.Underway.{IsUnderway, looks_left, slot_reads}
use Rattle.ps_phys.proofs.order.Walk.run.Given as goal

abbrev pub invariant-loop-next : goal.invariant-loop-next
invariant-loop-next l = (root : ℕ) → IsUnderway l.phys.slots root l.fn.self.met.slots l.fn.self.way.items l.fn.self.left.items l.fn.start → IsUnderway l.phys.slots root l.self.met.slots l.self.way.items l.self.left.items l.at

abbrev pub decreases-loop-next : goal.decreases-loop-next
decreases-loop-next l = looks_left (slot_reads l.phys.slots) (length l.phys.slots) l.self.met.slots l.self.way.items l.at
