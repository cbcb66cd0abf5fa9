use Rattle.std.proofs.Common.{[], ◌∷◌, ◌∙◌, ap}
use Rattle.std.specs.Prelude.{map}
use Rattle.std.proofs.lemmas.List.{map-append}
use Rattle.ps_expr_eval.proofs.LaneRows.{fill-at, lane-ok, lanes-more, lanes-rest}
use Rattle.ps_expr_eval.specs.Lanes.{seen_values}
use Rattle.ps_expr_eval.proofs.sort_by.lanes_of.Goals as goal

pub lane_of-requires : goal.lane_of-requires
lane_of-requires c = fill-at c.args.rows c.args.parts.now c.loop-part.part-index c.part-item.result c.loop-part-test.true c.part-item.is c.requires

pub loop-part-preserved : goal.loop-part-preserved
loop-part-preserved c =
    let lane = lane-ok c.part-item.result c.args.rows c.in_ok-outcome.outcome c.in-Ok.lane (λ lane. seen_values lane.items) c.in_ok-outcome.ensures c.in-Ok.is in
    record {
      lanes = lanes-more c.args.parts.now c.args.rows c.loop-part.part-index c.part-item.result _ _ (seen_values c.in-Ok.lane.items) c.loop-part-test.true c.part-item.is c.loop-part.invariant.lanes lane
          (ap (map (λ lane. seen_values lane.items)) c.in_ok-push-in-Ok.ensures.items ∙ map-append (λ lane. seen_values lane.items) c.loop-part.lanes.items (c.in-Ok.lane ∷ []));
      rest = lanes-rest c.args.parts.now c.args.rows c.loop-part.part-index c.part-item.result (seen_values c.in-Ok.lane.items) _ c.loop-part-test.true c.part-item.is lane c.loop-part.invariant.rest;
    }
