use Rattle.std.proofs.Common.{◌≡◌}
use Rattle.ps_expr_eval.specs.Operands.{values_from}
use Rattle.ps_expr_eval.proofs.elementwise.many_results.Given as goal

abbrev pub invariant-loop-i : goal.invariant-loop-i
invariant-loop-i l = l.values.items ≡ values_from l.op l.left l.right l.i
