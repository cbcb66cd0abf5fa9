use Rattle.std.proofs.Common.{take}
use Rattle.ps_frame.specs.Frames.{CanBroadcast}
use Rattle.ps_frame.proofs.frame.can_broadcast.Given as goal

abbrev pub invariant-loop-column : goal.invariant-loop-column
invariant-loop-column l = CanBroadcast l.height (take l.column-index l.columns)
