use Rattle.std.proofs.Common.{◌≤◌, ◌-◌, Bool, length}
use Rattle.std.specs.Fn.{ComputesKey}
use Rattle.pu_index.proofs.Searches.{Halved}
use Rattle.pu_index.proofs.search.partition_point_exponential.Given as goal

abbrev pub invariant-loop-bound : goal.invariant-loop-bound
invariant-loop-bound g l = record {
  callable : goal.P-IsAlwaysCallable g l.pred;
  within : (1 ≤ l.bound) × (l.low ≤ l.bound) × (l.low ≤ l.high) × (l.high ≤ length l.arr);
  halved : (p : g.row.T.Denot → Bool) → ComputesKey g.P.FnMut p l.initial.pred → ComputesKey g.P.FnMut p l.pred × Halved l.arr p l.low l.high;
}

abbrev pub decreases-loop-bound : goal.decreases-loop-bound
decreases-loop-bound g l = l.high - l.bound

abbrev pub invariant-loop-low : goal.invariant-loop-low
invariant-loop-low g l = record {
  callable : goal.P-IsAlwaysCallable g l.pred;
  within : (l.low ≤ l.high) × (l.high ≤ length l.arr);
  halved : (p : g.row.T.Denot → Bool) → ComputesKey g.P.FnMut p l.fn.pred → ComputesKey g.P.FnMut p l.pred × Halved l.arr p l.low l.high;
}

abbrev pub decreases-loop-low : goal.decreases-loop-low
decreases-loop-low g l = l.high - l.low
