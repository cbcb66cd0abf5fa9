use Rattle.std.proofs.Common.{◌∷◌, ◌∙◌, subst, sym}
use Rattle.std.specs.Prelude.{map}
use Rattle.std.proofs.lemmas.Result.{IfOk-weaker}
use Rattle.ps_expr_eval.specs.Held.{Keeps, cells_of, held_values}
use Rattle.ps_expr_eval.specs.Lanes.{AllFill, lane, seen_values, sorted_first}
use Rattle.ps_expr_eval.specs.Rows.{FillsRows, repeats}
use Rattle.ps_expr_eval.proofs.AtPlaces.{whole-lane}
use Rattle.ps_expr_eval.proofs.LaneRows.{all-fill, first-fault, lanes-err, lanes-ok, later-fault, sorted-faulty, sorted-keeps}
use Rattle.ps_frame.specs.Causes.{whole_column}
use Rattle.ps_expr_eval.proofs.sort_by.sorted_whole.Goals as goal

pub lane_fault-requires : goal.lane_fault-requires
lane_fault-requires c = subst (λ n. FillsRows (cells_of c.args.input.now.cells) (repeats c.args.input.now) n) (sym c.requires.rows) (all-fill (c.args.input.now ∷ c.args.keys.now)).0

pub lanes_of-requires : goal.lanes_of-requires
lanes_of-requires c = subst (AllFill c.args.keys.now) (sym c.requires.rows) (all-fill (c.args.input.now ∷ c.args.keys.now)).1

pub sorted_lanes-requires : goal.sorted_lanes-requires
sorted_lanes-requires c = subst (λ n. FillsRows (cells_of c.args.input.now.cells) (repeats c.args.input.now) n) (sym c.requires.rows) (all-fill (c.args.input.now ∷ c.args.keys.now)).0

pub returns-in-Some-clause-cells : goal.returns-in-Some-clause-cells
returns-in-Some-clause-cells c =
    sorted-faulty c.args.directions.now (c.args.input.now ∷ c.args.keys.now) c.args.rows _ c.in-Some.fault c.requires.rows
    (first-fault c.args.input.now c.args.keys.now c.args.rows c.in-Some.fault (sym c.lane_fault.ensures ∙ c.in-Some.is)) c.computed_ended.ensures.cells c.computed_ended.ensures.fault

pub returns-in-Err-clause-cells : goal.returns-in-Err-clause-cells
returns-in-Err-clause-cells c =
    let values = held_values (lane c.args.input.now c.args.rows) in
    let whole = whole-lane (lane c.args.input.now c.args.rows) (sym c.lane_fault.ensures ∙ c.in_default.is) in
    let lanes = lanes-err c.args.keys.now c.args.rows c.in_ok-outcome.outcome c.in-Err.fault (λ v. map (λ lane. seen_values lane.items) v.items) c.in_ok-outcome.ensures c.in-Err.is in
    sorted-faulty c.args.directions.now (c.args.input.now ∷ c.args.keys.now) c.args.rows _ c.in-Err.fault c.requires.rows
    (later-fault c.args.input.now c.args.keys.now c.args.rows values c.in-Err.fault whole lanes) c.computed_ended-in-Err.ensures.cells c.computed_ended-in-Err.ensures.fault

pub returns-in-Ok-clause-cells : goal.returns-in-Ok-clause-cells
returns-in-Ok-clause-cells c =
    let values = held_values (lane c.args.input.now c.args.rows) in
    let whole = whole-lane (lane c.args.input.now c.args.rows) (sym c.lane_fault.ensures ∙ c.in_default.is) in
    let lanes = lanes-ok c.args.keys.now c.args.rows c.in_ok-outcome.outcome c.in-Ok.lanes (λ v. map (λ lane. seen_values lane.items) v.items) c.in_ok-outcome.ensures c.in-Ok.is in
    IfOk-weaker c.sorted_lanes.result _ _
    (λ q kept. sorted-keeps c.args.directions.now (c.args.input.now ∷ c.args.keys.now) c.args.rows (values ∷ map (λ lane. seen_values lane.items) c.in-Ok.lanes.items) q c.requires.rows c.requires.whole (whole, lanes)
    (subst (λ ks. Keeps q (whole_column (sorted_first c.args.directions.now c.args.rows (values ∷ map (λ key. seen_values key.items) ks)))) c.as_slice.ensures.value (kept values whole)))
    c.sorted_lanes.ensures.cells
