use Rattle.std.specs.Prelude.{reverse}
use Rattle.ps_expr_eval.specs.Walks.{Proceeds, steps_left}
use Rattle.ps_frame.specs.Trees.{tree_at}
use Rattle.ps_expr_eval.proofs.evaluate.parts_of.Given as goal

abbrev pub invariant-loop-next : goal.invariant-loop-next
invariant-loop-next l = Proceeds l.df l.arena.items l.exprs (reverse l.left.items) l.columns.items l.shared

abbrev pub decreases-loop-next : goal.decreases-loop-next
decreases-loop-next l = steps_left (tree_at l.arena.items) (reverse l.left.items)
