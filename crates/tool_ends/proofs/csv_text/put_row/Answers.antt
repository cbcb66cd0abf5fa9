use Rattle.std.proofs.Common.{get_or, length, sym, ◌∙◌, arith}
use Rattle.std.specs.Prelude.{map}
use Rattle.std.proofs.lemmas.List.{length-map}
use Rattle.ps_frame.specs.Csv.{value_text}
use Rattle.ps_frame.specs.Series.{Series}
use Rattle.ps_frame.specs.declared.value.Value.TheVariants as val
use Rattle.tool_ends.specs.Csv.{cells}
use Rattle.tool_ends.proofs.CsvText.{cell_at, field-step, reaches_at, row-ended, where_ok}
use Rattle.tool_ends.proofs.csv_text.put_row.Goals as goal

pub value-requires : goal.value-requires
value-requires c = reaches_at c.args.columns.now c.loop-i.i c.args.row c.index-columns-i.result c.requires (omega arith) c.index-columns-i.is

pub loop-i-preserved : goal.loop-i-preserved
loop-i-preserved c =
    let fields = map value_text (cells c.args.row c.args.columns.now) in
    field-step c.args.text.now.items fields c.loop-i.i (value_text c.value.result.now) c.loop-i.text.items c.put_comma.new.text.items c.put_value.new.text.items c.loop-i.invariant
    (cell_at c.args.columns.now c.loop-i.i c.args.row c.index-columns-i.result c.value.result.now (omega arith) c.index-columns-i.is c.value.ensures) c.in_ok-put_comma.ensures c.in_ok-put_value.ensures

pub returns : goal.returns
returns c =
    let row = cells c.args.row c.args.columns.now in
    let wide = length-map row value_text ∙ length-map c.args.columns.now (λ (d : Series). get_or d.values c.args.row val.Null) in
    where_ok c.end_row.result
    (λ ended. row-ended c.args.text.now.items (map value_text row) (length c.args.columns.now) c.len-start.result c.loop-i.i c.loop-i.text.items c.end_row.new.text.items (sym wide) (omega arith) c.loop-i.invariant (omega arith) ended)
    c.end_row.ensures
