use Rattle.std.proofs.Common.{◌≡◌, true, All}
use Rattle.pu_index.proofs.iterators.all_equal.Given as goal

abbrev pub invariant-loop-item : goal.invariant-loop-item
invariant-loop-item g l = (goal.iterator-loop-item g).can_next l.item-iterator × (goal.iterator-loop-item g).is_finite l.item-iterator × All (λ y. g.I.Item.PartialEq.eq l.first y ≡ true) l.yielded
