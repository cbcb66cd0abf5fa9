-- The inputs so far are done.
use Rattle.std.proofs.Common.{◌≡◌, drop}
use Rattle.ps_turns.specs.Updates.{union_output}
use Rattle.node_states.proofs.union_node.passed.Given as goal

abbrev pub invariant-loop-input : goal.invariant-loop-input
invariant-loop-input l = union_output (drop l.input-index l.recv) ≡ union_output l.recv
