-- What was answered, and what is to be answered, are the whole.
use Rattle.std.proofs.Common.{◌≡◌, ◌++◌, drop, false, take}
use Rattle.node_states.proofs.Steps.{pass_rest}
use Rattle.node_states.proofs.union_node.pass_first.Given as goal

abbrev pub invariant-loop-input : goal.invariant-loop-input
invariant-loop-input l = take l.input-index l.recv ++ pass_rest l.output l.is_behind (drop l.input-index l.recv) ≡ pass_rest l.output false l.fn.recv
