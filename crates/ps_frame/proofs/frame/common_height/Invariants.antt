use Rattle.std.proofs.Common.{take}
use Rattle.ps_frame.specs.Frames.{AllOfHeight}
use Rattle.ps_frame.proofs.frame.common_height.Given as goal

abbrev pub invariant-loop-column : goal.invariant-loop-column
invariant-loop-column l = AllOfHeight 1 (take l.column-index l.columns)
