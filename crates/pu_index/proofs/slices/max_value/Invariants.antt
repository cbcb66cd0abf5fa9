use Rattle.std.specs.List.{IsLastBest}
use Rattle.std.specs.Ordering.{is_gt}
use Rattle.pu_index.proofs.slices.max_value.Given as goal

abbrev pub invariant-loop-i : goal.invariant-loop-i
invariant-loop-i g l = IsLastBest (λ x y. is_gt (g.T.Ord.cmp x y)) l.s l.i l.best
