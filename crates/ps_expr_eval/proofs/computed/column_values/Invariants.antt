use Rattle.std.proofs.Common.{◌≡◌, take}
use Rattle.ps_expr_eval.proofs.computed.column_values.Given as goal

abbrev pub invariant-loop-i : goal.invariant-loop-i
invariant-loop-i l = l.copies.items ≡ take l.i l.column.values
