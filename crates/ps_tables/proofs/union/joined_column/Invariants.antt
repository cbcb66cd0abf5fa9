use Rattle.std.proofs.Common.{◌≡◌, take}
use Rattle.ps_frame.specs.Tables.{values_at}
use Rattle.ps_tables.specs.Columns.{all_rows}
use Rattle.ps_tables.proofs.union.joined_column.Given as goal

abbrev pub invariant-loop-df : goal.invariant-loop-df
invariant-loop-df l = l.builder ≡ record { kind = l.fn.dtype; values = values_at l.i (all_rows (take l.df-index l.inputs)) }
