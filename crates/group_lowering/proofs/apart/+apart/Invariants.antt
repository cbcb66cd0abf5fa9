use Rattle.std.proofs.Common.{◌+◌, ◌*◌, take}
use Rattle.ps_frame.specs.Trees.{tree_at, tree_size, trees_of, trees_size}
use Rattle.lowering_parts.specs.Gathered.{trees_at}
use Rattle.group_lowering.specs.Groups.{ComeApart}
use Rattle.group_lowering.proofs.apart.+apart.Given as goal

abbrev pub decreases-taken_apart : goal.decreases-taken_apart
decreases-taken_apart l = 4 * tree_size (tree_at l.arena.now.items l.expr)

abbrev pub decreases-operands_apart : goal.decreases-operands_apart
decreases-operands_apart l = 4 * trees_size (trees_of (tree_at l.arena.now.items) l.operands.now) + 3

abbrev pub decreases-all_apart : goal.decreases-all_apart
decreases-all_apart l = 4 * trees_size (trees_of (tree_at l.arena.now.items) l.exprs.now) + 2

abbrev pub invariant-all_apart-loop-expr : goal.invariant-all_apart-loop-expr
invariant-all_apart-loop-expr l = ComeApart (trees_at (tree_at l.initial.arena.items) (take l.expr-index l.exprs)) l.initial.arena.items l.arena.items l.initial.low l.low l.initial.found.items l.found.items l.taken.items
