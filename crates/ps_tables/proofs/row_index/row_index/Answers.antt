use Rattle.std.proofs.Common.{◌-◌, ◌≤◌, length, ap, arith, ◌∙◌}
use Rattle.std.specs.Prelude.{unwrap_or}
use Rattle.ps_frame.specs.Aggregates.{max_rows}
use Rattle.ps_tables.specs.Numbers.{numbers_from}
use Rattle.ps_tables.proofs.Numbered.{index-faults, index-frame, index-gives}
use Rattle.ps_tables.proofs.Results.{ok-both}
use Rattle.ps_tables.proofs.row_index.row_index.Goals as goal

pub returns-then-height-first-clause-fault : goal.returns-then-height-first-clause-fault
returns-then-height-first-clause-fault c F name =
    let first = c.unwrap_or-first.ensures in
    let height = c.height-height.ensures.rows in
    let many = c.if-height-first.true in
    index-faults F c.args.at.0 name c.args.offset c.args.df.now (omega arith)

pub frame_of_height-requires : goal.frame_of_height-requires
frame_of_height-requires c =
    let height = c.height-height in
    let numbers = c.in_ok-numbers in
    let values = numbers.ensures.values ∙ ap (λ n. numbers_from n height.result) c.unwrap_or-first.ensures in
    index-frame c.args.df.now c.get_columns.result.now c.in_ok-columns.columns.items c.args.schema.now c.requires.0 numbers.numbers c.args.offset height.result height.ensures.rows c.get_columns.ensures.fields c.requires.1 numbers.ensures.kind values
    c.in_ok-columns.ensures.columns

pub returns-clause-table : goal.returns-clause-table
returns-clause-table c =
    let first = c.unwrap_or-first.ensures in
    let rows = c.height-height.ensures.rows in
    let fits = c.if-height-first.false in
    let few : length c.args.df.now.rows ≤ max_rows - unwrap_or c.args.offset 0 = omega arith in
    let height = c.height-height in
    let numbers = c.in_ok-numbers in
    let values = numbers.ensures.values ∙ ap (λ n. numbers_from n height.result) first in
    ok-both c.frame_of_height.result _ _ _ (λ f schema made F name named.
    index-gives c.args.df.now c.get_columns.result.now c.in_ok-columns.columns.items c.args.schema.now name numbers.numbers c.args.offset height.result rows c.get_columns.ensures.fields named numbers.ensures.kind values
    c.in_ok-columns.ensures.columns F c.args.at.0 f c.get_columns.ensures.rows few schema made)
    c.frame_of_height.ensures.schema c.frame_of_height.ensures.rows
