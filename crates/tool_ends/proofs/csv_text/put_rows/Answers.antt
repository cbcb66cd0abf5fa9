use Rattle.std.proofs.Common.{arith}
use Rattle.tool_ends.proofs.CsvText.{reaches, rows-all, rows-step}
use Rattle.tool_ends.proofs.csv_text.put_rows.Goals as goal

pub put_row-requires : goal.put_row-requires
put_row-requires c = reaches c.args.columns.now c.args.height c.loop-row.row c.requires (omega arith)

pub loop-row-preserved : goal.loop-row-preserved
loop-row-preserved c =
    rows-step c.args.text.now.items c.args.columns.now c.args.height c.loop-row.row c.loop-row.text.items c.put_row.new.text.items c.requires (omega arith) c.loop-row.invariant c.in_ok-put_row.ensures

pub returns : goal.returns
returns c = rows-all c.args.text.now.items c.args.columns.now c.args.height c.loop-row.row c.loop-row.text.items c.requires (omega arith) c.loop-row.invariant
