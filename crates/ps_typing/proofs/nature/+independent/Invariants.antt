use Rattle.std.proofs.Common.{◌≡◌, ◌+◌, ◌*◌, ◌≤◌, drop}
use Rattle.ps_frame.specs.Trees.{AreComplete, tree_at, tree_size, trees_of, trees_size}
use Rattle.ps_frame.specs.Typing.{every_part_of_all, reads_no_input}
use Rattle.ps_typing.proofs.nature.+independent.Given as goal

abbrev pub decreases-are_independent : goal.decreases-are_independent
decreases-are_independent l = 2 * trees_size (trees_of (tree_at l.arena.now.items) l.exprs.now) + 1

abbrev pub decreases-is_independent : goal.decreases-is_independent
decreases-is_independent l = 2 * tree_size (tree_at l.arena.now.items l.expr)

abbrev pub invariant-are_independent-loop-expr : goal.invariant-are_independent-loop-expr
invariant-are_independent-loop-expr l =
    record {
      complete : AreComplete (trees_of (tree_at l.arena.items) (drop l.expr-index l.exprs));
      left : every_part_of_all reads_no_input (trees_of (tree_at l.arena.items) l.exprs) ≡ every_part_of_all reads_no_input (trees_of (tree_at l.arena.items) (drop l.expr-index l.exprs));
      small : trees_size (trees_of (tree_at l.arena.items) (drop l.expr-index l.exprs)) ≤ trees_size (trees_of (tree_at l.arena.items) l.exprs);
    }
