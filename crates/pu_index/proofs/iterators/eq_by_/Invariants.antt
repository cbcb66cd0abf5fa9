use Rattle.std.proofs.Common.{true}
use Rattle.std.specs.Iterator.{IsFinite}
use Rattle.pu_index.proofs.Pairings.{Paired}
use Rattle.pu_index.proofs.iterators.eq_by_.Given as goal

-- the pairs so far
abbrev pub invariant-loop-item : goal.invariant-loop-item
invariant-loop-item g l = record {
  callable : (goal.iterator-loop-item g).can_next l.item-iterator × (goal.iterator-loop-item g).is_finite l.item-iterator × g.J.IntoIter.Iterator.can_next l.others × IsFinite (g.J.IntoIter.Iterator.remaining l.others) × goal.F-IsAlwaysCallable g l.eq;
  pairs : Paired g.J.IntoIter.Iterator.next_gives (goal.F-step g) true l.initial.others l.fn.eq l.yielded l.others l.eq;
}
