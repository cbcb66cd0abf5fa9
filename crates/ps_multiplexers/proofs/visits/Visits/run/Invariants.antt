use Rattle.std.proofs.Common.{ℕ, length}
use Rattle.ps_multiplexers.specs.Visiting.{IsVisiting, left_to_take}
use Rattle.ps_phys.specs.Underway.{AreThere}
use Rattle.ps_multiplexers.proofs.visits.Visits.run.Given as goal

abbrev pub invariant-loop-node : goal.invariant-loop-node
invariant-loop-node l =
    ((root : ℕ) → IsVisiting l.phys.slots root l.fn.self.pushed.slots l.fn.self.waiting.items l.fn.self.taken.items l.fn.self.read.items → IsVisiting l.phys.slots root l.self.pushed.slots l.self.waiting.items l.self.taken.items l.self.read.items)
    × AreThere l.phys.slots l.self.waiting.items

abbrev pub decreases-loop-node : goal.decreases-loop-node
decreases-loop-node l = left_to_take (length l.phys.slots) l.self.pushed.slots l.self.waiting.items
