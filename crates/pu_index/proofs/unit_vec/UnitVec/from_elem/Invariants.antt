use Rattle.std.proofs.Common.{◌≡◌, max, replicate}
use Rattle.pu_index.specs.UnitVec.{short}
use Rattle.pu_index.proofs.unit_vec.UnitVec.from_elem.Given as goal

abbrev pub invariant-loop-added : goal.invariant-loop-added
invariant-loop-added g l = l.v ≡ short (replicate l._added l.item) (max 1 l.n)
