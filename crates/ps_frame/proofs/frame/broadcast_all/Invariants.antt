use Rattle.std.proofs.Common.{◌≡◌, take}
use Rattle.std.specs.Prelude.{map}
use Rattle.ps_frame.specs.Frames.{broadcast_to}
use Rattle.ps_frame.proofs.frame.broadcast_all.Given as goal

abbrev pub invariant-loop-column : goal.invariant-loop-column
invariant-loop-column l = l.repeated.items ≡ map (broadcast_to l.height) (take l.column-index l.columns)
