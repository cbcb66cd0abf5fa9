use Rattle.std.proofs.lemmas.Result.{IfOk-weaker}
use Rattle.ps_expr_eval.specs.Wholes.{gathers}
use Rattle.ps_expr_eval.proofs.WholeOperands.{first-ok, values-two}
use Rattle.ps_expr_eval.proofs.whole.gathered_part.Goals as goal

pub returns-in-Ok-indices-clause-cells : goal.returns-in-Ok-indices-clause-cells
returns-in-Ok-indices-clause-cells c =
    IfOk-weaker c.gathered_cells.result _ _
    (λ q kept node. values-two (gathers node) c.args.input c.args.indices q _ _
    (first-ok c.args.input _ c.in-Ok.values c.in_ok-input.ensures c.in-Ok.is)
    (first-ok c.args.indices _ c.in-Ok-indices.places c.in_ok-indices.ensures c.in-Ok-indices.is)
    (kept node))
    c.gathered_cells.ensures.cells
