use Rattle.std.specs.Prelude.{reverse}
use Rattle.std.proofs.lemmas.Result.{IfOk-weaker}
use Rattle.ps_expr_eval.proofs.WholeOperands.{settled-err, settled-ok}
use Rattle.ps_frame.specs.Causes.{whole_column}
use Rattle.ps_frame.specs.Eval.{operand}
use Rattle.ps_expr_eval.proofs.whole.reversed_part.Goals as goal

pub returns-in-Ok-clause-cells : goal.returns-in-Ok-clause-cells
returns-in-Ok-clause-cells c =
    IfOk-weaker c.reversed_values.result _ _ (λ q kept. settled-ok (λ vs. whole_column (reverse (operand 0 vs))) c.args.input q _ c.in-Ok.values c.in_ok-outcome.ensures c.in-Ok.is kept) c.reversed_values.ensures.cells

pub returns-in-Err-clause-cells : goal.returns-in-Err-clause-cells
returns-in-Err-clause-cells c =
    settled-err (λ vs. whole_column (reverse (operand 0 vs))) c.args.input _ _ _ c.in_ok-outcome.ensures c.in-Err.is c.computed_ended.ensures.cells c.computed_ended.ensures.fault
