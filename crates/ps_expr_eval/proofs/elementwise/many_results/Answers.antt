use Rattle.std.proofs.Common.{ℕ, ◌∙◌, ap₂}
use Rattle.ps_expr_eval.specs.Operands.{value_for}
use Rattle.ps_expr_eval.proofs.Operated.{rows-more}
use Rattle.ps_frame.specs.Operators.{binary_value}
use Rattle.ps_expr_eval.proofs.elementwise.many_results.Goals as goal

pub loop-i-preserved : goal.loop-i-preserved
loop-i-preserved c =
    let value = λ (row : ℕ). binary_value c.args.op (value_for c.args.left.now row) (value_for c.args.right.now row) in
    rows-more value c.loop-i.i _ _ c.binary.result c.loop-i.invariant (c.binary.ensures ∙ ap₂ (binary_value c.args.op) c.value.ensures c.value-in-loop-i.ensures) c.in_ok-push.ensures.items
