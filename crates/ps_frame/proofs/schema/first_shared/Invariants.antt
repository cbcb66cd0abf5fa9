use Rattle.std.proofs.Common.{◌≡◌, take}
use Rattle.std.specs.Prelude.{None}
use Rattle.ps_frame.specs.Frames.{shared_name}
use Rattle.ps_frame.proofs.schema.first_shared.Given as goal

abbrev pub invariant-loop-i : goal.invariant-loop-i
invariant-loop-i l = shared_name l.schema (take l.i l.other) ≡ None
