use Rattle.ps_frame.specs.Trees.{AreComplete, tree_at, trees_of, trees_size}
use Rattle.ps_expr_eval.proofs.shared.count_readers.Given as goal

abbrev pub invariant-loop-next : goal.invariant-loop-next
invariant-loop-next l = AreComplete (trees_of (tree_at l.arena.items) l.left.items)

abbrev pub decreases-loop-next : goal.decreases-loop-next
decreases-loop-next l = trees_size (trees_of (tree_at l.arena.items) l.left.items)
