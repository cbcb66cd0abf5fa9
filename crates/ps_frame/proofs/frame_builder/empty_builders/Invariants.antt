use Rattle.std.proofs.Common.{◌≡◌, take}
use Rattle.std.specs.Prelude.{map}
use Rattle.ps_frame.specs.Frames.{empty_of}
use Rattle.ps_frame.proofs.frame_builder.empty_builders.Given as goal

abbrev pub invariant-loop-i : goal.invariant-loop-i
invariant-loop-i l = l.builders.items ≡ map empty_of (take l.i l.schema)
