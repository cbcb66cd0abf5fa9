use Rattle.std.proofs.Common.{◌≡◌, ◌+◌, ◌*◌, ◌≤◌, drop}
use Rattle.std.specs.Prelude.{◌&&◌, ◌||◌}
use Rattle.std.specs.List.{list_any}
use Rattle.ps_frame.specs.Parts.{is_literal_aggregate, trees_parts}
use Rattle.ps_frame.specs.Trees.{AreComplete, tree_at, tree_size, trees_of, trees_size}
use Rattle.ps_frame.specs.Typing.{every_part_of_all, reads_no_input}
use Rattle.ps_typing.proofs.nature.+independence.Given as goal

abbrev pub decreases-independence_of : goal.decreases-independence_of
decreases-independence_of g l = 2 * tree_size (tree_at l.arena.now.items l.expr)

abbrev pub decreases-independence_of_all : goal.decreases-independence_of_all
decreases-independence_of_all g l = 2 * trees_size (trees_of (tree_at l.arena.now.items) l.exprs.now) + 1

abbrev pub invariant-independence_of_all-loop-expr : goal.invariant-independence_of_all-loop-expr
invariant-independence_of_all-loop-expr g l =
    record {
      complete : AreComplete (trees_of (tree_at l.arena.items) (drop l.expr-index l.exprs));
      independent : every_part_of_all reads_no_input (trees_of (tree_at l.arena.items) l.exprs)
          ≡ (l.all.is_independent && every_part_of_all reads_no_input (trees_of (tree_at l.arena.items) (drop l.expr-index l.exprs)));
      aggregates : list_any is_literal_aggregate (trees_parts (trees_of (tree_at l.arena.items) l.exprs))
          ≡ (l.all.has_literal_aggregate || list_any is_literal_aggregate (trees_parts (trees_of (tree_at l.arena.items) (drop l.expr-index l.exprs))));
      small : trees_size (trees_of (tree_at l.arena.items) (drop l.expr-index l.exprs)) ≤ trees_size (trees_of (tree_at l.arena.items) l.exprs);
      steps : l.steps + trees_size (trees_of (tree_at l.arena.items) (drop l.expr-index l.exprs)) ≤ l.initial.steps + trees_size (trees_of (tree_at l.arena.items) l.exprs);
    }
