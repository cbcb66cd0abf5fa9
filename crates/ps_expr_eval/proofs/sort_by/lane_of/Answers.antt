use Rattle.std.proofs.Common.{[], ◌∷◌, ◌∙◌, ap}
use Rattle.std.proofs.lemmas.List.{map-append}
use Rattle.ps_expr_eval.specs.Lanes.{seen_values}
use Rattle.ps_expr_eval.proofs.LaneRows.{lane-more, lane-rest, lane-stop}
use Rattle.ps_expr_eval.proofs.Zips.{operand-cell}
use Rattle.ps_expr_eval.proofs.sort_by.lane_of.Goals as goal

pub loop-i-preserved : goal.loop-i-preserved
loop-i-preserved c =
    let cell = operand-cell c.args.part.now c.loop-i.i _ _ c.repeats-repeats.ensures c.in-Ok.ensures in
    record {
      values = lane-more c.args.part.now c.loop-i.i c.in-Ok.value.now (seen_values c.loop-i.values.items) _ c.loop-i.invariant.values cell (ap seen_values c.in_ok-push-in-Ok.ensures.items ∙ map-append (λ v. v.now) c.loop-i.values.items (c.in-Ok.value ∷ []));
      rest = lane-rest c.args.part.now c.args.rows c.loop-i.i c.in-Ok.value.now _ c.loop-i-test.true cell c.loop-i.invariant.rest;
    }

pub returns-in-Err : goal.returns-in-Err
returns-in-Err c =
    lane-stop c.args.part.now c.args.rows c.loop-i.i c.in-Err.fault _ c.loop-i-test.true (operand-cell c.args.part.now c.loop-i.i _ _ c.repeats-repeats.ensures c.in-Err.ensures) c.loop-i.invariant.rest
