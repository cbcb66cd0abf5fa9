use Rattle.std.proofs.Common.{◌≤◌, length}
use Rattle.physical_scripts.proofs.building.nodes.Given as goal

abbrev pub invariant-loop-part : goal.invariant-loop-part
invariant-loop-part l =
    record {
      few : length l.phys.slots ≤ l.count;
      bounded : l.count ≤ 1000;
    }
