use Rattle.std.proofs.Common.{◌+◌, ◌*◌}
use Rattle.ps_frame.specs.Trees.{tree_at, tree_size}
use Rattle.group_lowering.proofs.conditions.+reductions.Given as goal

abbrev pub decreases-is_made_of_reductions : goal.decreases-is_made_of_reductions
decreases-is_made_of_reductions l = 4 * tree_size (tree_at l.arena.now.items l.expr)

abbrev pub decreases-are_both_made : goal.decreases-are_both_made
decreases-are_both_made l = 4 * (tree_size (tree_at l.arena.now.items l.first) + tree_size (tree_at l.arena.now.items l.second)) + 1

abbrev pub decreases-are_three_made : goal.decreases-are_three_made
decreases-are_three_made l = 4 * (tree_size (tree_at l.arena.now.items l.first) + (tree_size (tree_at l.arena.now.items l.second) + tree_size (tree_at l.arena.now.items l.third))) + 2
