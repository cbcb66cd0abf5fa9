use Rattle.std.proofs.Common.{◌≡◌, drop}
use Rattle.ps_expr_eval.specs.Lengths.{first_open}
use Rattle.ps_expr_eval.proofs.lengths.first_open_length.Given as goal

abbrev pub invariant-loop-ending : goal.invariant-loop-ending
invariant-loop-ending l = first_open (drop l.ending-index l.endings) ≡ first_open l.endings
