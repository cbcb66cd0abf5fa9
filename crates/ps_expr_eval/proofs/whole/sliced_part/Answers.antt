use Rattle.std.proofs.lemmas.Result.{IfOk-weaker}
use Rattle.ps_expr_eval.specs.Held.{values_of}
use Rattle.ps_expr_eval.specs.Wholes.{slices}
use Rattle.ps_expr_eval.proofs.WholeOperands.{first-ok, sliced, values-three}
use Rattle.ps_expr_eval.proofs.whole.sliced_part.Goals as goal

pub returns-in-Ok-length-clause-cells : goal.returns-in-Ok-length-clause-cells
returns-in-Ok-length-clause-cells c =
    IfOk-weaker c.sliced_values.result _ _
    (λ q kept node. values-three (slices node) c.args.input c.args.offset c.args.length q _ _ _
    (first-ok c.args.input _ c.in-Ok.values c.in_ok-input.ensures c.in-Ok.is)
    (first-ok c.args.offset _ c.in-Ok-offset.offsets c.in_ok-offset.ensures c.in-Ok-offset.is)
    (first-ok c.args.length _ c.in-Ok-length.lengths c.in_ok-length.ensures c.in-Ok-length.is)
    (sliced q node (values_of c.in-Ok.values) (values_of c.in-Ok-offset.offsets) (values_of c.in-Ok-length.lengths) _ _
    c.number_in-from.ensures c.number_in-count.ensures (kept node)))
    c.sliced_values.ensures.cells
