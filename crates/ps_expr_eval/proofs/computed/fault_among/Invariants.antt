use Rattle.std.proofs.Common.{◌≡◌, drop}
use Rattle.ps_expr_eval.specs.Held.{first_bad}
use Rattle.ps_expr_eval.proofs.computed.fault_among.Given as goal

abbrev pub invariant-loop-cell : goal.invariant-loop-cell
invariant-loop-cell l = first_bad (drop l.cell-index l.cells) ≡ first_bad l.cells
