use Rattle.std.proofs.Common.{◌≡◌, ◌++◌, ◌-◌, length, take, map}
use Rattle.ps_phys.specs.Placed.{placed}
use Rattle.ps_phys.specs.Shown.{inputs_of}
use Rattle.plan_readers.proofs.places.push_inputs.Given as goal

abbrev pub invariant-loop-input : goal.invariant-loop-input
invariant-loop-input l = l.inputs.items ≡ l.initial.inputs.items ++ map (placed l.places.slots l.count) (take l.number (inputs_of l.kind))

abbrev pub decreases-loop-input : goal.decreases-loop-input
decreases-loop-input l = length (inputs_of l.kind) - l.number
