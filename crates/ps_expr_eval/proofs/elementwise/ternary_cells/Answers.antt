use Rattle.std.proofs.Common.{[], ◌∷◌}
use Rattle.ps_expr_eval.specs.Cellwise.{ternary_row}
use Rattle.ps_expr_eval.proofs.Zips.{cells-more, operand-cell, three_cells}
use Rattle.ps_expr_eval.proofs.elementwise.ternary_cells.Goals as goal

pub loop-i-preserved : goal.loop-i-preserved
loop-i-preserved c =
    cells-more ternary_row (c.args.predicate.now ∷ c.args.truthy.now ∷ c.args.falsy.now ∷ []) c.loop-i.i _ _ _ _ c.loop-i.invariant
    (three_cells _ _ _ _ _ _ (operand-cell c.args.predicate.now c.loop-i.i _ _ c.repeats-predicate_repeats.ensures c.cell_in_row-p.ensures)
    (operand-cell c.args.truthy.now c.loop-i.i _ _ c.repeats-truthy_repeats.ensures c.cell_in_row-a.ensures)
    (operand-cell c.args.falsy.now c.loop-i.i _ _ c.repeats-falsy_repeats.ensures c.cell_in_row-b.ensures))
    c.in_ok-ternary_cell.ensures c.in_ok-push.ensures
