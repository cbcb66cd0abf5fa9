use Rattle.std.proofs.Common.{◌≡◌, map, arith, rules, sym, ap, subst, ◌∙◌}
use Rattle.std.proofs.lemmas.List.{length-map}
use Rattle.ps_frame.specs.Frames.{column_values}
use Rattle.ps_frame.specs.Tables.{rows_of}
use Rattle.ps_frame.specs.Zip.{below}
use Rattle.ps_keys.specs.Hashes.{row_at}
use Rattle.ps_keys.specs.Numbering.{Numbers}
use Rattle.ps_keys.specs.Tables.{first_rows, firsts_of}
use Rattle.ps_keys.proofs.FirstRows.{length-below}
use Rattle.ps_keys.proofs.Numberings.{firsts-below, numbers-none, numbers-step}
use Rattle.ps_keys.proofs.RowValues.{have_row, rows_of-is}
use Rattle.ps_keys.proofs.numbering.number_rows.Goals as goal

pub loop-row-init : goal.loop-row-init
loop-row-init c = record {
  numbers = numbers-none _ (search rules) c.in_ok-table.ensures.empty;
  ready = c.in_ok-table.ensures.ready c.args.columns.now;
  known = c.in_ok-known.ensures (firsts_of c.in_ok-table.table);
}

pub number_of-requires-clause-rows : goal.number_of-requires-clause-rows
number_of-requires-clause-rows c = λ k within.
    let rows = map (row_at c.args.columns.now) (below c.loop-row.row) in
    let below_row = firsts-below rows _ c.loop-row.invariant.numbers k within in
    have_row c.args.height _ c.args.columns.now c.requires (omega (arith, length-map (below c.loop-row.row) (row_at c.args.columns.now), length-below c.loop-row.row))

pub loop-row-preserved : goal.loop-row-preserved
loop-row-preserved c = record {
  numbers = numbers-step (row_at c.args.columns.now) c.loop-row.row _ _ _ c.loop-row.invariant.numbers c.in_ok-number_of.ensures.number (search rules);
  ready = c.in_ok-number_of.ensures.ready;
  known = c.in_ok-number_of.ensures.known;
}

pub returns : goal.returns
returns c =
    let all = rows_of-is c.args.height c.args.columns.now c.requires in
    let done : c.loop-row.row ≡ c.args.height = search rules in
    let counted = subst (λ rows. Numbers rows (record { keys = c.loop-row.keys; firsts = first_rows c.loop-row.table }))
    (ap (λ h. map (row_at c.args.columns.now) (below h)) done ∙ sym all) c.loop-row.invariant.numbers in
    subst (λ firsts. Numbers (rows_of c.args.height (column_values c.args.columns.now)) (record { keys = c.loop-row.keys; firsts = firsts })) (sym c.into_firsts-firsts.ensures) counted
