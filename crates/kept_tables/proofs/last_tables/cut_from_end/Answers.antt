-- The place and the number of rows are those of the slice.
use Rattle.std.proofs.Common.{◌∙◌, arith}
use Rattle.kept_tables.proofs.LastTables.{end_rows}
use Rattle.kept_tables.proofs.last_tables.cut_from_end.Goals as goal

pub returns-in-Ok-clause-rows : goal.returns-in-Ok-clause-rows
returns-in-Ok-clause-rows c = c.in-Ok.ensures.rows ∙ end_rows c.args.back c.args.length c.args.count _ _ c.args.table.now.rows (omega arith) (omega arith)
