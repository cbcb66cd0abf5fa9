use Rattle.std.proofs.Common.{◌≡◌, [], ◌∷◌}
use Rattle.ps_expr_eval.specs.Cellwise.{binary_row}
use Rattle.ps_expr_eval.specs.Held.{cells_grown}
use Rattle.ps_expr_eval.specs.Rows.{cells_from}
use Rattle.ps_expr_eval.proofs.elementwise.cell_by_cell.Given as goal

abbrev pub invariant-loop-i : goal.invariant-loop-i
invariant-loop-i l = cells_grown l.cells ≡ cells_from (binary_row l.op) (l.left ∷ l.right ∷ []) l.i
