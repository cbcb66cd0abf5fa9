use Rattle.std.proofs.Common.{◌≡◌, ◌+◌, ◌*◌, ◌≤◌, drop}
use Rattle.ps_frame.specs.Trees.{AreComplete, tree_at, tree_size, trees_of, trees_size}
use Rattle.ps_frame.specs.Typing.{are_scalar as are_scalar_trees}
use Rattle.ps_typing.proofs.nature.+scalar.Given as goal

abbrev pub decreases-are_scalar : goal.decreases-are_scalar
decreases-are_scalar l = 2 * trees_size (trees_of (tree_at l.arena.now.items) l.exprs.now) + 1

abbrev pub decreases-is_scalar : goal.decreases-is_scalar
decreases-is_scalar l = 2 * tree_size (tree_at l.arena.now.items l.expr)

abbrev pub invariant-are_scalar-loop-expr : goal.invariant-are_scalar-loop-expr
invariant-are_scalar-loop-expr l =
    record {
      complete : AreComplete (trees_of (tree_at l.arena.items) (drop l.expr-index l.exprs));
      left : are_scalar_trees (trees_of (tree_at l.arena.items) l.exprs) ≡ are_scalar_trees (trees_of (tree_at l.arena.items) (drop l.expr-index l.exprs));
      small : trees_size (trees_of (tree_at l.arena.items) (drop l.expr-index l.exprs)) ≤ trees_size (trees_of (tree_at l.arena.items) l.exprs);
    }
