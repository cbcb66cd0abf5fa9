use Rattle.std.proofs.Common.{◌+◌, ◌*◌}
use Rattle.ps_frame.specs.Trees.{tree_at, tree_size}
use Rattle.ps_fresh.proofs.elementwise.+elementwise.Given as goal

abbrev pub decreases-is_elementwise_expr : goal.decreases-is_elementwise_expr
decreases-is_elementwise_expr l = 4 * tree_size (tree_at l.arena.now.items l.expr) + 1

abbrev pub decreases-is_entry_elementwise : goal.decreases-is_entry_elementwise
decreases-is_entry_elementwise l = 4 * tree_size (tree_at l.arena.now.items l.expr)

abbrev pub decreases-are_both_elementwise : goal.decreases-are_both_elementwise
decreases-are_both_elementwise l = 4 * (tree_size (tree_at l.arena.now.items l.first) + tree_size (tree_at l.arena.now.items l.second)) + 2

abbrev pub decreases-are_three_elementwise : goal.decreases-are_three_elementwise
decreases-are_three_elementwise l =
    4 * (tree_size (tree_at l.arena.now.items l.first) + (tree_size (tree_at l.arena.now.items l.second) + tree_size (tree_at l.arena.now.items l.third))) + 3
