use Rattle.std.proofs.Common.{◌≡◌, take}
use Rattle.ps_keys.specs.Hashes.{row_at}
use Rattle.ps_keys.proofs.rows.are_same.Given as goal

abbrev pub invariant-loop-column : goal.invariant-loop-column
invariant-loop-column l = row_at (take l.column-index l.columns) l.a ≡ row_at (take l.column-index l.columns) l.b
