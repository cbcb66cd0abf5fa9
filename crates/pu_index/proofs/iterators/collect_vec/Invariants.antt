use Rattle.std.proofs.Common.{◌≡◌, ◌+◌, ◌≤◌, length}
use Rattle.pu_index.proofs.iterators.collect_vec.Given as goal

abbrev pub invariant-loop-item : goal.invariant-loop-item
invariant-loop-item g l = (goal.iterator-loop-item g).can_next l.item-iterator × (goal.iterator-loop-item g).is_finite l.item-iterator × (l.items.items ≡ l.yielded)
    × (length l.yielded + (goal.iterator-loop-item g).remaining l.item-iterator ≤ (goal.iterator-loop-item g).remaining l.initial.item-iterator)
