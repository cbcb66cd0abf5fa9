use Rattle.std.proofs.Common.{◌≤◌, ◌-◌, length}
use Rattle.std.specs.declared.cmp.Ordering.{Ordering}
use Rattle.std.specs.Fn.{ComputesKey}
use Rattle.pu_index.proofs.Searches.{Narrowed}
use Rattle.pu_index.proofs.search.exponential_search_by.Given as goal

abbrev pub invariant-loop-bound : goal.invariant-loop-bound
invariant-loop-bound g l = record {
  callable : goal.F-IsAlwaysCallable g l.f;
  within : (1 ≤ l.bound) × (l.low ≤ l.bound) × (l.low ≤ l.high) × (l.high ≤ length l.arr);
  narrowed : (ord : g.row.T.Denot → Ordering) → ComputesKey g.F.FnMut ord l.initial.f → ComputesKey g.F.FnMut ord l.f × Narrowed l.arr ord l.low l.high;
}

abbrev pub decreases-loop-bound : goal.decreases-loop-bound
decreases-loop-bound g l = l.high - l.bound

abbrev pub invariant-loop-low : goal.invariant-loop-low
invariant-loop-low g l = record {
  callable : goal.F-IsAlwaysCallable g l.f;
  within : (l.low ≤ l.high) × (l.high ≤ length l.arr);
  narrowed : (ord : g.row.T.Denot → Ordering) → ComputesKey g.F.FnMut ord l.fn.f → ComputesKey g.F.FnMut ord l.f × Narrowed l.arr ord l.low l.high;
}

abbrev pub decreases-loop-low : goal.decreases-loop-low
decreases-loop-low g l = l.high - l.low
