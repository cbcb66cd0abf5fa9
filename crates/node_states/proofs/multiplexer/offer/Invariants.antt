-- What was answered, and what is to be answered, are the whole.
use Rattle.std.proofs.Common.{◌≡◌, ◌++◌, drop, take}
use Rattle.node_states.proofs.Steps.{offer_rest}
use Rattle.node_states.proofs.multiplexer.offer.Given as goal

abbrev pub invariant-loop-i : goal.invariant-loop-i
invariant-loop-i l = take l.i l.send ++ offer_rest l.input (drop l.i l.empties) (drop l.i l.send) ≡ offer_rest l.input l.empties l.fn.send
