use Rattle.physical_scripts.specs.Built.{ReadBelow}
use Rattle.physical_scripts.proofs.building.is_whole.Given as goal

abbrev pub invariant-loop-number : goal.invariant-loop-number
invariant-loop-number l = ReadBelow l.phys.slots l.number
