-- The heads so far, and those that are left, are the whole.
use Rattle.std.proofs.Common.{◌≡◌, ◌++◌, drop, take}
use Rattle.node_states.specs.Heads.{heads_from}
use Rattle.node_states.proofs.heads.write.Given as goal

abbrev pub invariant-loop-i : goal.invariant-loop-i
invariant-loop-i l = take l.i l.heads ++ heads_from l.null_extend l.is_spent l.booked (drop l.i l.recv) (drop l.i l.came) ≡ heads_from l.null_extend l.is_spent l.booked l.recv l.came
