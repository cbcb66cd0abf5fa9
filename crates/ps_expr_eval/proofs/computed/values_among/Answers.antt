use Rattle.ps_expr_eval.proofs.Parts.{skip-bad}
use Rattle.ps_expr_eval.proofs.computed.values_among.Goals as goal

pub loop-cell-preserved : goal.loop-cell-preserved
loop-cell-preserved c = skip-bad c.loop-cell.yielded c.in-Some.cell c.in_default.field-0 c.loop-cell.values.items c.loop-cell.invariant c.in_default.is
