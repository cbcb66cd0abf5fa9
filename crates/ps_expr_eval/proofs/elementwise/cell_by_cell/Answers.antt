use Rattle.std.proofs.Common.{[], ◌∷◌}
use Rattle.ps_expr_eval.specs.Cellwise.{binary_row}
use Rattle.ps_expr_eval.proofs.Zips.{cells-more, operand-cell, two_cells}
use Rattle.ps_expr_eval.proofs.elementwise.cell_by_cell.Goals as goal

pub loop-i-preserved : goal.loop-i-preserved
loop-i-preserved c =
    cells-more (binary_row c.args.op) (c.args.left.now ∷ c.args.right.now ∷ []) c.loop-i.i _ _ _ _ c.loop-i.invariant
    (two_cells _ _ _ _ (operand-cell c.args.left.now c.loop-i.i _ _ c.repeats-left_repeats.ensures c.cell_in_row-a.ensures) (operand-cell c.args.right.now c.loop-i.i _ _ c.repeats-right_repeats.ensures c.cell_in_row-b.ensures))
    c.binary_cell.ensures c.in_ok-push.ensures
