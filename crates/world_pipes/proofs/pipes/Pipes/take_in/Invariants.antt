-- Those of the keys so far are changed.
use Rattle.std.proofs.Common.{take, true}
use Rattle.ps_graph.specs.Shown.{numbers}
use Rattle.world_pipes.proofs.pipes.Pipes.take_in.Given as goal
use Rattle.world_pipes.specs.Changed.{Changed}
use Rattle.world_pipes.specs.Shown.{phase_pipe}

abbrev pub invariant-loop-key : goal.invariant-loop-key
invariant-loop-key l = Changed (phase_pipe true) (numbers (take l.key-index l.keys)) l.fn.self.list.items l.self.list.items
