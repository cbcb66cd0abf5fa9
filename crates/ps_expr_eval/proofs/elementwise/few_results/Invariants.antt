use Rattle.std.proofs.Common.{◌≡◌}
use Rattle.std.specs.Prelude.{map}
use Rattle.ps_expr_eval.specs.Decided.{Knows}
use Rattle.ps_expr_eval.specs.Held.{cells_grown}
use Rattle.ps_expr_eval.specs.Operands.{values_from}
use Rattle.ps_frame.specs.declared.value.Cell.TheVariants as held
use Rattle.ps_expr_eval.proofs.elementwise.few_results.Given as goal

abbrev pub invariant-loop-i : goal.invariant-loop-i
invariant-loop-i l = record {
  cells : cells_grown l.cells ≡ map held.Val (values_from l.op l.left l.right l.i);
  known : Knows l.op l.left l.right l.decided;
}
