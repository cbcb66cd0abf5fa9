use Rattle.std.proofs.Common.{◌≡◌, ◌++◌, take}
use Rattle.lowering_parts.proofs.schemas.push_all.Given as goal

abbrev pub invariant-loop-i : goal.invariant-loop-i
invariant-loop-i l = l.schema ≡ l.initial.schema ++ take l.i l.other
