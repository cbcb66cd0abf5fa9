use Rattle.std.proofs.Common.{ap, map, refl}
use Rattle.ps_expr_eval.proofs.WholeOperands.{whole-kept}
use Rattle.ps_frame.specs.Sorting.{values_in_order}
use Rattle.ps_frame.specs.declared.value.Cell.TheVariants as held
use Rattle.ps_expr_eval.specs.Held.{values_of}
use Rattle.ps_expr_eval.proofs.whole.sorted_whole.Goals as goal

pub returns-clause-cells : goal.returns-clause-cells
returns-clause-cells c = whole-kept _ (values_in_order c.args.direction (values_of c.args.values)) (ap (map held.Val) c.in_ok-values.ensures) refl
