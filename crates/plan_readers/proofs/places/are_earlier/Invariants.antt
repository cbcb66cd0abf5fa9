use Rattle.std.proofs.Common.{◌-◌, length, drop}
use Rattle.ps_phys.specs.Shown.{inputs_of}
use Rattle.plan_readers.specs.Ordered.{AreEarlier}
use Rattle.plan_readers.proofs.places.are_earlier.Given as goal

abbrev pub invariant-loop-input : goal.invariant-loop-input
invariant-loop-input l = AreEarlier l.places.slots l.before (drop l.number (inputs_of l.kind)) → AreEarlier l.places.slots l.before (inputs_of l.kind)

abbrev pub decreases-loop-input : goal.decreases-loop-input
decreases-loop-input l = length (inputs_of l.kind) - l.number
