use Rattle.std.proofs.Common.{refl}
use Rattle.ps_expr_eval.specs.Held.{values_of}
use Rattle.ps_expr_eval.proofs.WholeOperands.{picked-keeps}
use Rattle.ps_expr_eval.proofs.whole.gathered_cells.Goals as goal

pub returns-in-Ok-clause-cells : goal.returns-in-Ok-clause-cells
returns-in-Ok-clause-cells c =
    picked-keeps _ (values_of c.args.values.now) (values_of c.args.indices.now) c.in-Ok.cells.items refl refl c.in-Ok.ensures.cells
