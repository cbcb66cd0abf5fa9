use Rattle.std.proofs.Common.{◌≡◌, ◌++◌, length}
use Rattle.std.specs.Prelude.{reverse}
use Rattle.ps_expr_eval.proofs.operands.take_last.Given as goal

abbrev pub invariant-loop-taken : goal.invariant-loop-taken
invariant-loop-taken l = record { parts : l.initial.columns.items ≡ l.columns.items ++ reverse l.last.items; len : length l.last.items ≡ l._taken }
