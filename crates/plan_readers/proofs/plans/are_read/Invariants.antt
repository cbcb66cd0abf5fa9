use Rattle.std.proofs.Common.{[], get_or}
use Rattle.pu_base.specs.declared.arena.Node.{Node}
use Rattle.ps_frame.specs.Trees.{Tree}
use Rattle.plan_readers.proofs.Ordering.{EachBefore}
use Rattle.plan_readers.specs.Readers.{IsReadAs}
use Rattle.plan_readers.specs.Ordered.{ordered}
use Rattle.plan_readers.proofs.plans.are_read.Given as goal

abbrev pub invariant-loop-number : goal.invariant-loop-number
invariant-loop-number l = (f : Node → Tree) → EachBefore (ordered f l.phys.slots l.order) (λ n p. IsReadAs p.kind (get_or l.readers n [])) l.number
