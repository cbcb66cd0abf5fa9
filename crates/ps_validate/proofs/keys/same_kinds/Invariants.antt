use Rattle.ps_validate.proofs.keys.same_kinds.Given as goal
use Rattle.std.proofs.Common.{◌≡◌, take}

abbrev pub invariant-loop-i : goal.invariant-loop-i
invariant-loop-i l = take l.i l.left ≡ take l.i l.right
