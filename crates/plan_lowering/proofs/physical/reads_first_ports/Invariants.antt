use Rattle.std.proofs.Common.{◌-◌, length, take}
use Rattle.ps_phys.specs.Shown.{inputs_of}
use Rattle.plan_lowering.specs.There.{AreFirstPorts}
use Rattle.plan_lowering.proofs.physical.reads_first_ports.Given as goal

abbrev pub invariant-loop-input : goal.invariant-loop-input
invariant-loop-input l = AreFirstPorts l.phys_sm.slots (take l.place (inputs_of l.kind))

abbrev pub decreases-loop-input : goal.decreases-loop-input
decreases-loop-input l = length (inputs_of l.kind) - l.place
