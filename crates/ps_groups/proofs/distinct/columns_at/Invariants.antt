use Rattle.std.proofs.Common.{◌≡◌, map, take}
use Rattle.ps_frame.specs.Frames.{column_values}
use Rattle.ps_frame.specs.Tables.{values_at}
use Rattle.ps_groups.proofs.distinct.columns_at.Given as goal

abbrev pub invariant-loop-place : goal.invariant-loop-place
invariant-loop-place l = column_values l.columns.items ≡ map (λ i. values_at i l.df.rows) (take l.place-index l.places)
