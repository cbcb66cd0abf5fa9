use Rattle.sound_plans.proofs.Naming.{AreInOrder}
use Rattle.sound_plans.proofs.named.are_in_order.Given as goal

abbrev pub invariant-loop-number : goal.invariant-loop-number
invariant-loop-number l = AreInOrder l.arena.items l.number
