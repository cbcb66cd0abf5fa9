use Rattle.std.specs.List.{IsFirstBest}
use Rattle.std.specs.Ordering.{is_lt}
use Rattle.pu_index.proofs.slices.min_value.Given as goal

abbrev pub invariant-loop-i : goal.invariant-loop-i
invariant-loop-i g l = IsFirstBest (λ x y. is_lt (g.T.Ord.cmp x y)) l.s l.i l.best
