use Rattle.std.proofs.Common.{get_or, refl, arith}
use Rattle.tool_ends.proofs.CsvText.{escaped-none_yet, escaped-step}
use Rattle.tool_ends.proofs.csv_text.put_escaped.Goals as goal

pub loop-b-init : goal.loop-b-init
loop-b-init c = escaped-none_yet c.args.text.now.items c.args.field.now

pub loop-b-preserved : goal.loop-b-preserved
loop-b-preserved c =
    escaped-step c.args.text.now.items c.args.field.now c.loop-b.b-index (get_or c.args.field.now c.loop-b.b-index 0) c.loop-b.text.items c.put_escaped_byte.new.text.items c.loop-b.invariant (omega arith) refl
    c.in_ok-put_escaped_byte.ensures
