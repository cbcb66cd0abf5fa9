use Rattle.std.proofs.Common.{◌≡◌, ◌+◌, ◌*◌, ◌-◌, ◌≤◌, drop, take}
use Rattle.ps_frame.specs.Trees.{AreComplete, aggregate_tree, tree_at, tree_size, trees_of, trees_size}
use Rattle.ps_copies.specs.Copies.{KeepsTrees}
use Rattle.ps_copies.proofs.exprs.+copying.Given as goal

abbrev pub decreases-copy_expr : goal.decreases-copy_expr
decreases-copy_expr l = 3 * tree_size (tree_at l.from.now.items l.expr)

abbrev pub decreases-copy_two : goal.decreases-copy_two
decreases-copy_two l = 3 * (tree_size (tree_at l.from.now.items l.first) + tree_size (tree_at l.from.now.items l.second)) + 1

abbrev pub decreases-copy_three : goal.decreases-copy_three
decreases-copy_three l = 3 * (tree_size (tree_at l.from.now.items l.first) + (tree_size (tree_at l.from.now.items l.second) + tree_size (tree_at l.from.now.items l.third))) + 2

abbrev pub decreases-copy_keyed : goal.decreases-copy_keyed
decreases-copy_keyed l = 3 * (tree_size (tree_at l.from.now.items l.expr) + trees_size (trees_of (tree_at l.from.now.items) l.by.now)) + 2

abbrev pub decreases-copy_all : goal.decreases-copy_all
decreases-copy_all l = 3 * trees_size (trees_of (tree_at l.from.now.items) l.exprs.now) + 1

abbrev pub decreases-copy_aggregate : goal.decreases-copy_aggregate
decreases-copy_aggregate l = 3 * tree_size (aggregate_tree (tree_at l.from.now.items) l.aggregate.now) - 1

abbrev pub invariant-copy_all-loop-expr : goal.invariant-copy_all-loop-expr
invariant-copy_all-loop-expr l =
    record {
      complete : AreComplete (trees_of (tree_at l.from.items) (drop l.expr-index l.exprs));
      small : trees_size (trees_of (tree_at l.from.items) (drop l.expr-index l.exprs)) ≤ trees_size (trees_of (tree_at l.from.items) l.exprs);
      trees : trees_of (tree_at l.into.items) l.copies.items ≡ trees_of (tree_at l.from.items) (take l.expr-index l.exprs);
      kept : KeepsTrees l.initial.into.items l.into.items;
    }
