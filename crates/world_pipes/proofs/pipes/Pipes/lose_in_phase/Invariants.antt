-- Those of the keys so far are changed.
use Rattle.std.proofs.Common.{take}
use Rattle.ps_world.specs.Pipes.{dropped_pipe}
use Rattle.ps_graph.specs.Shown.{numbers}
use Rattle.world_pipes.proofs.pipes.Pipes.lose_in_phase.Given as goal
use Rattle.world_pipes.specs.Changed.{Changed, if_in_phase}

abbrev pub invariant-loop-key : goal.invariant-loop-key
invariant-loop-key l = Changed (if_in_phase dropped_pipe) (numbers (take l.key-index l.keys)) l.fn.self.list.items l.self.list.items
