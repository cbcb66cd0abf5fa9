-- None so far.
use Rattle.std.proofs.Common.{false}
use Rattle.flow_moves.proofs.Looking.{AreSo}
use Rattle.flow_moves.proofs.waiting.input_with_next.Given as goal
use Rattle.flow_moves.specs.Moves.{is_waiting}

abbrev pub invariant-loop-place : goal.invariant-loop-place
invariant-loop-place l = AreSo l.pipes l.keys is_waiting false l.place
