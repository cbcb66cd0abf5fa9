use Rattle.std.proofs.Common.{◌≡◌, map, Ok}
use Rattle.pu_index.proofs.iterators.try_collect_vec.Given as goal

abbrev pub invariant-loop-outcome : goal.invariant-loop-outcome
invariant-loop-outcome g l = (goal.iterator-loop-outcome g).can_next l.outcome-iterator × (goal.iterator-loop-outcome g).is_finite l.outcome-iterator × (l.yielded ≡ map Ok l.values.items)
