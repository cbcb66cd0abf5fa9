-- The nodes so far are told.
use Rattle.std.proofs.Common.{◌≡◌}
use Rattle.ps_flow.proofs.beginning.start_all.Given as goal
use Rattle.ps_flow.specs.Openings.{AreStarted}

abbrev pub invariant-loop-number : goal.invariant-loop-number
invariant-loop-number g l = record {
  nodes : AreStarted g.N.RunNode.Has g.N.RunNode.IsNew l.options l.number l.fn.graph.nodes.slots l.graph.nodes.slots;
  pipes : l.graph.pipes ≡ l.fn.graph.pipes;
}
