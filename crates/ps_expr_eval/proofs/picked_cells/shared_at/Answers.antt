use Rattle.std.proofs.Common.{◌∙◌, ap}
use Rattle.std.specs.Prelude.{map}
use Rattle.ps_expr_eval.proofs.AtPlaces.{gathered_cells}
use Rattle.ps_expr_eval.proofs.picked_cells.shared_at.Goals as goal
use Rattle.ps_frame.specs.declared.value.Cell.TheVariants as held

pub returns-in-Ok : goal.returns-in-Ok
returns-in-Ok c = ap (λ x. map held.Val x.values) c.in-Ok.ensures.picked ∙ gathered_cells c.args.column.now.values c.args.places.now
