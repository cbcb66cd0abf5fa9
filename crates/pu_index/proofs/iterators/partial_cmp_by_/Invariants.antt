use Rattle.std.proofs.Common.{Some, Equal}
use Rattle.std.specs.Iterator.{IsFinite}
use Rattle.pu_index.proofs.Pairings.{Paired}
use Rattle.pu_index.proofs.iterators.partial_cmp_by_.Given as goal

-- the pairs so far
abbrev pub invariant-loop-item : goal.invariant-loop-item
invariant-loop-item g l = record {
  callable : (goal.iterator-loop-item g).can_next l.item-iterator × (goal.iterator-loop-item g).is_finite l.item-iterator × g.J.IntoIter.Iterator.can_next l.others × IsFinite (g.J.IntoIter.Iterator.remaining l.others) × goal.F-IsAlwaysCallable g l.partial_cmp;
  pairs : Paired g.J.IntoIter.Iterator.next_gives (goal.F-step g) (Some Equal) l.initial.others l.fn.partial_cmp l.yielded l.others l.partial_cmp;
}
