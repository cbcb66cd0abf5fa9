use Rattle.std.proofs.Common.{take}
use Rattle.ps_frame.specs.Frames.{HasKinds}
use Rattle.ps_frame.proofs.frame.have_kinds.Given as goal

abbrev pub invariant-loop-i : goal.invariant-loop-i
invariant-loop-i l = HasKinds (take l.i l.schema) (take l.i l.columns)
