use Rattle.std.proofs.Common.{◌≡◌, take}
use Rattle.ps_expr_eval.proofs.Agreement.{least_of, unrepeated}
use Rattle.ps_expr_eval.proofs.lengths.count_rows.Given as goal

abbrev pub invariant-loop-ending : goal.invariant-loop-ending
invariant-loop-ending l = l.least ≡ least_of (unrepeated (take l.ending-index l.endings))
