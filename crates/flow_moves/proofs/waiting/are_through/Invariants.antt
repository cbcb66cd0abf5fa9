-- All so far.
use Rattle.std.proofs.Common.{true}
use Rattle.flow_moves.proofs.Looking.{AreSo}
use Rattle.flow_moves.proofs.waiting.are_through.Given as goal
use Rattle.flow_moves.specs.Moves.{is_through}

abbrev pub invariant-loop-place : goal.invariant-loop-place
invariant-loop-place l = AreSo l.pipes l.keys is_through true l.place
