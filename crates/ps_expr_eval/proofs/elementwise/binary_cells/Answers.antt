use Rattle.std.proofs.Common.{◌∙◌}
use Rattle.ps_expr_eval.proofs.Operated.{cells-operated}
use Rattle.ps_expr_eval.proofs.elementwise.binary_cells.Goals as goal

pub returns : goal.returns
returns c =
    c.in_ok-cells.ensures
    ∙ cells-operated c.args.op c.in-Some-Some.a c.in-Some-Some.b c.args.left.now c.args.right.now c.args.rows c.in-Some-Some.ensures c.in-Some-Some.ensures'
