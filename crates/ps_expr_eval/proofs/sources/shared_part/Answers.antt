use Rattle.std.proofs.Common.{ap, refl}
use Rattle.std.specs.Prelude.{map}
use Rattle.ps_frame.specs.declared.value.Cell.TheVariants as held
use Rattle.ps_expr_eval.proofs.WholeOperands.{whole-kept}
use Rattle.ps_expr_eval.proofs.sources.shared_part.Goals as goal

pub returns-in-Ok-clause-cells : goal.returns-in-Ok-clause-cells
returns-in-Ok-clause-cells c = whole-kept _ c.args.column.now.values (ap (λ x. map held.Val x.values) c.in-Ok.ensures.same) refl
