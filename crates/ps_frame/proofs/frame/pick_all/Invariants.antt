use Rattle.std.proofs.Common.{◌≡◌, take}
use Rattle.std.specs.Prelude.{map}
use Rattle.ps_frame.specs.Gathered.{gathered}
use Rattle.ps_frame.proofs.frame.pick_all.Given as goal

abbrev pub invariant-loop-column : goal.invariant-loop-column
invariant-loop-column l = l.picked.items ≡ map (gathered l.rows) (take l.column-index l.columns)
