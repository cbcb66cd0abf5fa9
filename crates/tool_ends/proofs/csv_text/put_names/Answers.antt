use Rattle.std.proofs.Common.{List, ℕ, Some, ap, sym, ◌∙◌, arith}
use Rattle.std.specs.Prelude.{map}
use Rattle.std.proofs.lemmas.List.{length-map}
use Rattle.std.proofs.lemmas.Option.{slice_get-map}
use Rattle.ps_frame.specs.declared.value.DataType.{DataType}
use Rattle.tool_ends.proofs.CsvText.{field-step, row-ended, where_ok}
use Rattle.tool_ends.proofs.csv_text.put_names.Goals as goal

pub loop-i-preserved : goal.loop-i-preserved
loop-i-preserved c =
    let name = λ (f : List ℕ × DataType). f.0 in
    field-step c.args.text.now.items (map name c.args.schema.now) c.loop-i.i c.as_bytes.result.now c.loop-i.text.items c.put_comma.new.text.items c.put_field.new.text.items c.loop-i.invariant
    (slice_get-map name c.args.schema.now c.loop-i.i ∙ c.name.ensures ∙ ap Some (sym (c.as_bytes.ensures.value ∙ c.as_str.ensures))) c.in_ok-put_comma.ensures c.in_ok-put_field.ensures

pub returns : goal.returns
returns c =
    let name = λ (f : List ℕ × DataType). f.0 in
    let wide = length-map c.args.schema.now name in
    let long = c.len-i-end.ensures in
    where_ok c.end_row.result
    (λ ended. row-ended c.args.text.now.items (map name c.args.schema.now) c.len.result c.len-start.result c.loop-i.i c.loop-i.text.items c.end_row.new.text.items (c.len.ensures ∙ sym wide) (omega arith) c.loop-i.invariant (omega arith) ended)
    c.end_row.ensures
