use Rattle.std.proofs.Common.{◌+◌, ◌*◌, take}
use Rattle.std.specs.Prelude.{map}
use Rattle.ps_frame.specs.Trees.{aggregate_tree, tree_at, tree_size, trees_of, trees_size}
use Rattle.ps_phys.specs.Shown.{stream_of}
use Rattle.ps_rules.specs.Calls.{each}
use Rattle.ps_rules.specs.Lowered.{as_operand}
use Rattle.lowering_parts.specs.Gathered.{Follows, trees_at}
use Rattle.expr_lowering.proofs.lower.+lowering.Given as goal

abbrev pub decreases-lower : goal.decreases-lower
decreases-lower l = 16 * tree_size (tree_at l.arena.now.items l.expr) + 3

abbrev pub decreases-lower_entry : goal.decreases-lower_entry
decreases-lower_entry l = 16 * tree_size (tree_at l.arena.now.items l.expr) + 2

abbrev pub decreases-lower_operands : goal.decreases-lower_operands
decreases-lower_operands l = 16 * trees_size (trees_of (tree_at l.arena.now.items) l.operands.now) + 6

abbrev pub decreases-lower_sort : goal.decreases-lower_sort
decreases-lower_sort l = 16 * tree_size (tree_at l.arena.now.items l.expr) + 7

abbrev pub decreases-lower_sort_by : goal.decreases-lower_sort_by
decreases-lower_sort_by l = 16 * (tree_size (tree_at l.arena.now.items l.values) + trees_size (trees_of (tree_at l.arena.now.items) l.by.now)) + 7

abbrev pub decreases-lower_filter : goal.decreases-lower_filter
decreases-lower_filter l = 16 * (tree_size (tree_at l.arena.now.items l.values) + tree_size (tree_at l.arena.now.items l.by)) + 7

abbrev pub decreases-lower_aggregate : goal.decreases-lower_aggregate
decreases-lower_aggregate l = 16 * tree_size (aggregate_tree (tree_at l.arena.now.items) l.aggregate) + 1

abbrev pub decreases-reduce : goal.decreases-reduce
decreases-reduce l = 16 * tree_size (aggregate_tree (tree_at l.arena.now.items) l.aggregate)

abbrev pub decreases-together : goal.decreases-together
decreases-together l = 16 * trees_size (trees_of (tree_at l.arena.now.items) l.exprs.now) + 5

abbrev pub decreases-lower_each : goal.decreases-lower_each
decreases-lower_each l = 16 * trees_size (trees_of (tree_at l.arena.now.items) l.exprs.now) + 4

abbrev pub decreases-select : goal.decreases-select
decreases-select l = 16 * trees_size (trees_of (tree_at l.arena.now.items) l.exprs.now) + 6

abbrev pub invariant-lower_each-loop-expr : goal.invariant-lower_each-loop-expr
invariant-lower_each-loop-expr l =
    Follows (each (map (as_operand l.initial.low.origin.0 (stream_of l.input)) (trees_at (tree_at l.initial.arena.items) (take l.expr-index l.exprs)))) l.initial.arena.items l.arena.items l.initial.low l.low l.initial.call l.call
