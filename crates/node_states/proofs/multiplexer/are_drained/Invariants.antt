-- The outputs so far are done or drained.
use Rattle.std.proofs.Common.{◌≡◌, drop}
use Rattle.ps_turns.specs.Updates.{undone_empty}
use Rattle.node_states.proofs.multiplexer.are_drained.Given as goal

abbrev pub invariant-loop-i : goal.invariant-loop-i
invariant-loop-i l = undone_empty (drop l.i l.empties) (drop l.i l.send) ≡ undone_empty l.empties l.send
