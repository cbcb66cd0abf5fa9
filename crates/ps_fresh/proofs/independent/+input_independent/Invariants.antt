use Rattle.std.proofs.Common.{◌≡◌, ◌+◌, ◌*◌, ◌≤◌, drop}
use Rattle.ps_frame.specs.Trees.{AreComplete, tree_at, tree_size, trees_of, trees_size}
use Rattle.ps_frame.specs.Typing.{every_part_of_all, is_independent, reads_no_input}
use Rattle.ps_fresh.specs.Known.{RemembersBy}
use Rattle.ps_fresh.proofs.independent.+input_independent.Given as goal

abbrev pub decreases-is_independent_expr : goal.decreases-is_independent_expr
decreases-is_independent_expr l = 4 * tree_size (tree_at l.arena.now.items l.expr) + 1

abbrev pub decreases-is_entry_independent : goal.decreases-is_entry_independent
decreases-is_entry_independent l = 4 * tree_size (tree_at l.arena.now.items l.expr)

abbrev pub decreases-are_both_independent : goal.decreases-are_both_independent
decreases-are_both_independent l = 4 * (tree_size (tree_at l.arena.now.items l.first) + tree_size (tree_at l.arena.now.items l.second)) + 2

abbrev pub decreases-are_three_independent : goal.decreases-are_three_independent
decreases-are_three_independent l =
    4 * (tree_size (tree_at l.arena.now.items l.first) + (tree_size (tree_at l.arena.now.items l.second) + tree_size (tree_at l.arena.now.items l.third))) + 3

abbrev pub decreases-is_with_all_independent : goal.decreases-is_with_all_independent
decreases-is_with_all_independent l = 4 * (tree_size (tree_at l.arena.now.items l.first) + trees_size (trees_of (tree_at l.arena.now.items) l.others.now)) + 3

abbrev pub decreases-are_all_independent : goal.decreases-are_all_independent
decreases-are_all_independent l = 4 * trees_size (trees_of (tree_at l.arena.now.items) l.exprs.now) + 2

abbrev pub invariant-are_all_independent-loop-expr : goal.invariant-are_all_independent-loop-expr
invariant-are_all_independent-loop-expr l =
    record {
      complete : AreComplete (trees_of (tree_at l.arena.items) (drop l.expr-index l.exprs));
      left : every_part_of_all reads_no_input (trees_of (tree_at l.arena.items) l.exprs) ≡ every_part_of_all reads_no_input (trees_of (tree_at l.arena.items) (drop l.expr-index l.exprs));
      small : trees_size (trees_of (tree_at l.arena.items) (drop l.expr-index l.exprs)) ≤ trees_size (trees_of (tree_at l.arena.items) l.exprs);
      cache : RemembersBy is_independent l.arena.items l.cache;
    }
