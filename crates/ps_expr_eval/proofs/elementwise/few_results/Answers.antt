use Rattle.std.proofs.Common.{ap}
use Rattle.ps_expr_eval.proofs.Operated.{cells-more}
use Rattle.ps_frame.specs.declared.value.Cell.TheVariants as held
use Rattle.ps_expr_eval.proofs.elementwise.few_results.Goals as goal

pub loop-i-init : goal.loop-i-init
loop-i-init c = record { cells = c.of_few-cells.ensures; known = c.new-decided.ensures c.args.op c.args.left.now c.args.right.now }

pub loop-i-preserved : goal.loop-i-preserved
loop-i-preserved c = record {
  cells = cells-more c.args.op c.args.left.now c.args.right.now c.loop-i.i _ _ (held.Val c.in_ok-value.value) c.loop-i.invariant.cells (ap held.Val c.in_ok-value.ensures.value) c.in_ok-push_value.ensures;
  known = c.in_ok-value.ensures.known;
}
