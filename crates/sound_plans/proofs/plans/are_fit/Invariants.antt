use Rattle.ps_frame.specs.Trees.{tree_at}
use Rattle.ps_fresh.specs.Known.{Remembers}
use Rattle.ps_meaning.specs.Sound.{IsFitNode}
use Rattle.plan_readers.proofs.Ordering.{EachBefore}
use Rattle.plan_readers.specs.Ordered.{ordered}
use Rattle.sound_plans.proofs.plans.are_fit.Given as goal

abbrev pub invariant-loop-number : goal.invariant-loop-number
invariant-loop-number g l =
    record {
      fit : EachBefore (ordered (tree_at l.arena.items) l.phys.slots l.order) (IsFitNode (g.F.Functions.told l.functions) (ordered (tree_at l.arena.items) l.phys.slots l.order)) l.number;
      cache : Remembers l.arena.items l.cache;
    }
