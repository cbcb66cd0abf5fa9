use Rattle.std.proofs.Common.{◌≡◌, ◌+◌, ◌≤◌, ◌++◌, length, take}
use Rattle.pu_index.specs.UnitVec.{short}
use Rattle.pu_index.proofs.unit_vec.UnitVec.extend_from_slice.Given as goal

abbrev pub invariant-loop-item : goal.invariant-loop-item
invariant-loop-item g l = record {
  room : length l.initial.self.items + length l.items ≤ l.initial.self.capacity;
  appended : l.self ≡ short (l.initial.self.items ++ take l.item-index l.items) l.initial.self.capacity;
}
