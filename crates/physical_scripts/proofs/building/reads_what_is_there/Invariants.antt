use Rattle.std.proofs.Common.{◌-◌, length, take}
use Rattle.ps_phys.specs.Shown.{inputs_of}
use Rattle.physical_scripts.specs.Built.{AreThere}
use Rattle.physical_scripts.proofs.building.reads_what_is_there.Given as goal

abbrev pub invariant-loop-input : goal.invariant-loop-input
invariant-loop-input l = AreThere l.phys.slots (take l.place (inputs_of l.kind))

abbrev pub decreases-loop-input : goal.decreases-loop-input
decreases-loop-input l = length (inputs_of l.kind) - l.place
