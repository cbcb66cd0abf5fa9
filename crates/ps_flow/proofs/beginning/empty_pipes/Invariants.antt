-- The pipes so far.
use Rattle.std.proofs.Common.{◌≡◌, take}
use Rattle.std.specs.Prelude.{map}
use Rattle.ps_flow.proofs.beginning.empty_pipes.Given as goal
use Rattle.ps_flow.specs.Openings.{AreBounds, empty_pipe}
use Rattle.ps_graph.specs.Shown.{wires_of}
use Rattle.world_pipes.specs.Shown.{AreShown, Setting}

abbrev pub invariant-loop-number : goal.invariant-loop-number
invariant-loop-number g l = (s : Setting) → s.room ≡ l.room → AreBounds g.N.RunNode.Has l.graph.nodes.slots s → AreShown s (map empty_pipe (take l.number (wires_of l.graph.pipes.slots))) l.pipes
