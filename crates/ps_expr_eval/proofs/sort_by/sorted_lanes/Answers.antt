use Rattle.std.proofs.Common.{◌∙◌, ap, refl}
use Rattle.std.specs.Prelude.{map}
use Rattle.ps_expr_eval.specs.Lanes.{seen_values}
use Rattle.ps_expr_eval.proofs.AtPlaces.{lane-picked, places-there}
use Rattle.ps_expr_eval.proofs.LaneRows.{sorted-first}
use Rattle.ps_expr_eval.proofs.WholeOperands.{whole-kept}
use Rattle.ps_expr_eval.proofs.sort_by.sorted_lanes.Goals as goal
use Rattle.ps_frame.specs.declared.value.Cell.TheVariants as held

pub cells_at-requires : goal.cells_at-requires
cells_at-requires c =
    places-there c.args.input.now c.args.rows c.repeats.result c.in_ok-order.order.items c.as_slice.result.now c.requires c.repeats.ensures c.in_ok-order.ensures.there (c.as_slice.ensures.value ∙ c.in_ok-places.ensures)

pub returns-clause-cells : goal.returns-clause-cells
returns-clause-cells c = λ values whole.
    let keys = map (λ key. seen_values key.items) c.args.keys.now in
    whole-kept _ _
    (c.in_ok-cells_at.ensures
    ∙ lane-picked c.args.input.now c.args.rows values c.repeats.result c.in_ok-order.order.items c.as_slice.result.now c.repeats.ensures c.in_ok-order.ensures.there whole (c.as_slice.ensures.value ∙ c.in_ok-places.ensures)
    ∙ ap (map held.Val) (c.in_ok-order.ensures.order values ∙ sorted-first c.args.directions.now c.args.rows values keys))
    refl
