use Rattle.std.proofs.Common.{◌≡◌, take}
use Rattle.ps_frame.specs.Frames.{HasKinds, column_values}
use Rattle.ps_frame.specs.Zip.{below}
use Rattle.ps_tables.specs.Columns.{all_rows}
use Rattle.ps_tables.proofs.Projected.{columns_at}
use Rattle.ps_tables.proofs.union.joined_columns.Given as goal

abbrev pub invariant-loop-i : goal.invariant-loop-i
invariant-loop-i l = record {
  kinds : HasKinds (take l.i l.schema) l.columns.items;
  values : column_values l.columns.items ≡ columns_at (all_rows l.inputs) (below l.i);
}
