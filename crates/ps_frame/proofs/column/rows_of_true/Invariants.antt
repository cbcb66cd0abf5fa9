use Rattle.std.proofs.Common.{◌≡◌, take, length}
use Rattle.ps_frame.specs.Frames.{kept}
use Rattle.ps_frame.specs.Zip.{below}
use Rattle.ps_frame.proofs.column.rows_of_true.Given as goal

abbrev pub invariant-loop-i : goal.invariant-loop-i
invariant-loop-i l = l.rows.items ≡ kept (take l.i l.column.values) (take l.i (below (length l.column.values)))
