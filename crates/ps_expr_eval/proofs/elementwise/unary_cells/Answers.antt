use Rattle.std.proofs.Common.{[], ◌∷◌, ap}
use Rattle.ps_expr_eval.specs.Cellwise.{unary_row}
use Rattle.ps_expr_eval.proofs.Zips.{cells-more, operand-cell}
use Rattle.ps_expr_eval.proofs.elementwise.unary_cells.Goals as goal

pub loop-i-preserved : goal.loop-i-preserved
loop-i-preserved c =
    cells-more (unary_row c.args.op) (c.args.input.now ∷ []) c.loop-i.i _ _ _ _ c.loop-i.invariant
    (ap (λ h. h ∷ []) (operand-cell c.args.input.now c.loop-i.i _ _ c.repeats-repeats.ensures c.cell_in_row-a.ensures))
    c.in_ok-unary_cell.ensures c.in_ok-push.ensures
