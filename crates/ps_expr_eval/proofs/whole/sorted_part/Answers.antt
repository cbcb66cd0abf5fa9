use Rattle.std.proofs.Common.{subst}
use Rattle.ps_expr_eval.specs.Held.{Keeps, values_of}
use Rattle.ps_frame.specs.Causes.{whole_column}
use Rattle.ps_frame.specs.Sorting.{values_in_order}
use Rattle.std.proofs.lemmas.Result.{IfOk-weaker}
use Rattle.ps_expr_eval.specs.Wholes.{sorts}
use Rattle.ps_expr_eval.proofs.WholeOperands.{settled-err, settled-ok}
use Rattle.ps_expr_eval.proofs.whole.sorted_part.Goals as goal

pub returns-in-Ok-clause-cells : goal.returns-in-Ok-clause-cells
returns-in-Ok-clause-cells c =
    IfOk-weaker c.sorted_whole.result _ _
    (λ q kept. settled-ok (sorts c.args.descending c.args.nulls_last) c.args.input q _ c.in-Ok.values c.in_ok-outcome.ensures c.in-Ok.is
    (subst (λ d. Keeps q (whole_column (values_in_order d (values_of c.in-Ok.values)))) c.new.ensures kept))
    c.sorted_whole.ensures.cells

pub returns-in-Err-clause-cells : goal.returns-in-Err-clause-cells
returns-in-Err-clause-cells c =
    settled-err (sorts c.args.descending c.args.nulls_last) c.args.input _ _ _ c.in_ok-outcome.ensures c.in-Err.is c.computed_ended.ensures.cells c.computed_ended.ensures.fault
