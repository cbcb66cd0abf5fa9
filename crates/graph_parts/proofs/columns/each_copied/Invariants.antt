use Rattle.std.proofs.Common.{◌≡◌, take}
use Rattle.std.specs.Prelude.{map}
use Rattle.ps_frame.specs.Trees.{tree_at}
use Rattle.ps_meaning.specs.Steps.{named_trees}
use Rattle.plain_nodes.specs.Exprs.{expr_shown}
use Rattle.graph_parts.proofs.columns.each_copied.Given as goal

abbrev pub invariant-loop-expr : goal.invariant-loop-expr
invariant-loop-expr l = map expr_shown l.copies.items ≡ named_trees (tree_at l.arena.items) (take l.expr-index l.exprs)
