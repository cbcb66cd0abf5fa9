use Rattle.std.proofs.Common.{◌≡◌, drop}
use Rattle.ps_expr_eval.specs.Lengths.{first_ended}
use Rattle.ps_expr_eval.proofs.lengths.first_fault.Given as goal

abbrev pub invariant-loop-ending : goal.invariant-loop-ending
invariant-loop-ending l = first_ended (drop l.ending-index l.endings) ≡ first_ended l.endings
