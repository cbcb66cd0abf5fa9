use Rattle.std.proofs.lemmas.Result.{IfOk-weaker}
use Rattle.ps_expr_eval.specs.Wholes.{aggregates, aggregation_of}
use Rattle.ps_expr_eval.proofs.WholeOperands.{settled-err, settled-ok}
use Rattle.ps_expr_eval.proofs.aggregate.aggregated_part.Goals as goal

pub returns-in-Ok-clause-cells : goal.returns-in-Ok-clause-cells
returns-in-Ok-clause-cells c =
    IfOk-weaker c.aggregate_of.result _ _
    (λ q kept node. settled-ok (aggregates node (aggregation_of c.args.aggregate) c.args.input.dtype) c.args.input q _ c.in-Ok.values c.in_ok-outcome.ensures c.in-Ok.is (kept node))
    c.aggregate_of.ensures.cells

pub returns-in-Err-clause-cells : goal.returns-in-Err-clause-cells
returns-in-Err-clause-cells c = λ node.
    settled-err (aggregates node (aggregation_of c.args.aggregate) c.args.input.dtype) c.args.input _ _ _ c.in_ok-outcome.ensures c.in-Err.is c.computed_ended.ensures.cells c.computed_ended.ensures.fault
