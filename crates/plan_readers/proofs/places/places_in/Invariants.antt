use Rattle.std.proofs.Common.{take}
use Rattle.ps_phys.specs.Placed.{IsPlaced}
use Rattle.ps_phys.specs.Underway.{numbers_in}
use Rattle.plan_readers.proofs.places.places_in.Given as goal

abbrev pub invariant-loop-place : goal.invariant-loop-place
invariant-loop-place l = IsPlaced (numbers_in (take l.place l.order)) l.places.slots
