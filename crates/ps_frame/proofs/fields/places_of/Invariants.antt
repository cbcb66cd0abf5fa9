use Rattle.std.proofs.Common.{take}
use Rattle.ps_frame.specs.Places.{FindsEach}
use Rattle.ps_frame.proofs.fields.places_of.Given as goal

abbrev pub invariant-loop-i : goal.invariant-loop-i
invariant-loop-i l = FindsEach (take l.i l.list) l.places
