use Rattle.std.proofs.Common.{◌≡◌, ◌++◌, take}
use Rattle.std.specs.Prelude.{flat_map, map}
use Rattle.csv.specs.Writing.{default_writer, row_text}
use Rattle.ps_frame.specs.Csv.{value_text}
use Rattle.ps_frame.specs.Frames.{column_values}
use Rattle.ps_frame.specs.Tables.{rows_of}
use Rattle.tool_ends.proofs.csv_text.put_rows.Given as goal

abbrev pub invariant-loop-row : goal.invariant-loop-row
invariant-loop-row l = l.text.items ≡ l.initial.text.items ++ flat_map (λ row. row_text default_writer (map value_text row)) (take l.row (rows_of l.height (column_values l.columns)))
