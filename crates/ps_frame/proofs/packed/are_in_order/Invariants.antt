use Rattle.std.proofs.Common.{◌≡◌, take}
use Rattle.ps_frame.specs.Zip.{below}
use Rattle.ps_frame.proofs.packed.are_in_order.Given as goal

abbrev pub invariant-loop-i : goal.invariant-loop-i
invariant-loop-i l = take l.i l.places ≡ below l.i
