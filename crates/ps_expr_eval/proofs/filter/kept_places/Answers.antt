use Rattle.std.proofs.Common.{[], ◌∷◌, ◌++◌, ◌∙◌, ap, refl, subst, sym}
use Rattle.std.specs.Prelude.{if◌then◌else◌}
use Rattle.ps_expr_eval.specs.Held.{cell_at, cells_of}
use Rattle.ps_expr_eval.specs.Rows.{StandAt, kept_value, repeats}
use Rattle.ps_expr_eval.proofs.AtPlaces.{first-held, place-there, stand-more, stand-none}
use Rattle.ps_expr_eval.proofs.KeptRows.{fault-end, fault-more, fault-stop, kept-end, kept-more, kept-stop}
use Rattle.ps_expr_eval.proofs.Zips.{operand-cell, two_cells}
use Rattle.ps_expr_eval.proofs.filter.kept_places.Goals as goal

pub loop-i-init : goal.loop-i-init
loop-i-init c = record {
  kept = [];
  stand = rw c.new-places.ensures.items (stand-none (cells_of c.args.input.now.cells));
  values = refl;
  fault = refl;
}

pub loop-i-preserved : goal.loop-i-preserved
loop-i-preserved c =
    let ps = c.args.input.now ∷ c.args.by.now ∷ [] in
    let cells = cells_of c.args.input.now.cells in
    let value = c.in-Ok._value.now in
    let mark = c.in-Ok.mark.now in
    let first = operand-cell c.args.input.now c.loop-i.i _ _ c.repeats-input_repeats.ensures c.cell_in_row-a.ensures in
    let row = two_cells _ _ _ _ first (operand-cell c.args.by.now c.loop-i.i _ _ c.repeats-by_repeats.ensures c.cell_in_row-b.ensures) in
    let place = c.place_in_row-place.ensures ∙ ap (λ b. if b then 0 else c.loop-i.i) c.repeats-input_repeats.ensures in
    let there = place-there cells (repeats c.args.input.now) c.args.rows c.loop-i.i c.place_in_row-place.result c.requires.input c.loop-i-test.true place in
    let is = ap (cell_at cells) place ∙ sym first ∙ first-held _ _ value mark c.in-Ok.ensures.0 c.in-Ok.ensures.1 in
    record {
      kept = c.loop-i.invariant.kept ++ kept_value (value ∷ mark ∷ []);
      stand = stand-more cells c.loop-i.places.items _ c.loop-i.invariant.kept c.place_in_row-place.result value mark there is c.in_ok-push_kept-in-Ok.ensures c.loop-i.invariant.stand;
      values = kept-more ps c.args.rows c.loop-i.i _ c.loop-i.invariant.kept _ _ c.loop-i-test.true row c.in-Ok.ensures.0 (ap (λ r. c.loop-i.invariant.kept ++ kept_value r) (sym c.in-Ok.ensures.1)) c.loop-i.invariant.values;
      fault = fault-more ps c.args.rows c.loop-i.i _ _ c.loop-i-test.true row c.in-Ok.ensures.0 c.loop-i.invariant.fault;
    }

pub returns-in-Err-clause-places : goal.returns-in-Err-clause-places
returns-in-Err-clause-places c =
    let ps = c.args.input.now ∷ c.args.by.now ∷ [] in
    let row = two_cells _ _ _ _ (operand-cell c.args.input.now c.loop-i.i _ _ c.repeats-input_repeats.ensures c.cell_in_row-a.ensures) (operand-cell c.args.by.now c.loop-i.i _ _ c.repeats-by_repeats.ensures c.cell_in_row-b.ensures) in
    subst (StandAt (cells_of c.args.input.now.cells) c.loop-i.places.items)
    (kept-stop ps c.args.rows c.loop-i.i _ c.in-Err.fault c.loop-i.invariant.kept _ c.loop-i-test.true row c.in-Err.ensures c.loop-i.invariant.values) c.loop-i.invariant.stand

pub returns-in-Err-clause-fault : goal.returns-in-Err-clause-fault
returns-in-Err-clause-fault c =
    let ps = c.args.input.now ∷ c.args.by.now ∷ [] in
    let row = two_cells _ _ _ _ (operand-cell c.args.input.now c.loop-i.i _ _ c.repeats-input_repeats.ensures c.cell_in_row-a.ensures) (operand-cell c.args.by.now c.loop-i.i _ _ c.repeats-by_repeats.ensures c.cell_in_row-b.ensures) in
    fault-stop ps c.args.rows c.loop-i.i _ c.in-Err.fault _ c.loop-i-test.true row c.in-Err.ensures c.loop-i.invariant.fault

pub returns-clause-places : goal.returns-clause-places
returns-clause-places c =
    subst (StandAt (cells_of c.args.input.now.cells) c.loop-i.places.items)
    (kept-end (c.args.input.now ∷ c.args.by.now ∷ []) c.args.rows c.loop-i.i c.loop-i.invariant.kept _ c.loop-i-test.false c.loop-i.invariant.values) c.loop-i.invariant.stand

pub returns-clause-fault : goal.returns-clause-fault
returns-clause-fault c = fault-end (c.args.input.now ∷ c.args.by.now ∷ []) c.args.rows c.loop-i.i _ c.loop-i-test.false c.loop-i.invariant.fault
