use Rattle.std.proofs.Common.{◌-◌, length}
use Rattle.ps_phys.specs.Shown.{inputs_of}
use Rattle.physical_scripts.proofs.building.reads_earlier.Given as goal

abbrev pub decreases-loop-input : goal.decreases-loop-input
decreases-loop-input l = length (inputs_of l.kind) - l.place
