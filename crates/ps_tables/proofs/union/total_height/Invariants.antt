use Rattle.std.proofs.Common.{◌≡◌, ◌-◌, ◌^◌, length, min, take}
use Rattle.ps_tables.specs.Columns.{all_rows}
use Rattle.ps_tables.proofs.union.total_height.Given as goal

abbrev pub invariant-loop-df : goal.invariant-loop-df
invariant-loop-df l = l.height ≡ min (length (all_rows (take l.df-index l.inputs))) (2 ^ 64 - 1)
