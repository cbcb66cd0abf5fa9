use Rattle.std.proofs.Common.{◌≡◌}
use Rattle.ps_expr_eval.specs.Held.{held_values}
use Rattle.ps_expr_eval.proofs.computed.values_among.Given as goal

abbrev pub invariant-loop-cell : goal.invariant-loop-cell
invariant-loop-cell l = l.values.items ≡ held_values l.yielded
