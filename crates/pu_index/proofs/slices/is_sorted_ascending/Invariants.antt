use Rattle.std.proofs.Common.{◌≡◌, ℕ, ◌<◌, ◌+◌, false, get_or}
use Rattle.std.specs.Ordering.{is_gt}
use Rattle.pu_index.proofs.slices.is_sorted_ascending.Given as goal

abbrev pub invariant-loop-i : goal.invariant-loop-i
invariant-loop-i g l = (k : ℕ) (d : g.row.T.Denot) → k + 1 < l.i → is_gt (g.T.Ord.cmp (get_or l.s k d) (get_or l.s (k + 1) d)) ≡ false
