-- The heads so far broadcast.
use Rattle.std.proofs.Common.{◌≡◌, drop}
use Rattle.node_states.specs.Heads.{open_lengths}
use Rattle.node_states.proofs.zip.first_open.Given as goal

abbrev pub invariant-loop-head : goal.invariant-loop-head
invariant-loop-head l = open_lengths (drop l.head-index l.heads) ≡ open_lengths l.heads
