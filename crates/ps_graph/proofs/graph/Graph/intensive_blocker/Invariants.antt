-- The one that is chosen among the nodes so far, and how many readers of it are ready.
use Rattle.std.proofs.Common.{◌≡◌}
use Rattle.ps_graph.specs.Running.{are_intensive, chosen_below}
use Rattle.ps_graph.specs.Shown.{wires_of}
use Rattle.ps_graph.proofs.Choosing.{readers_at}
use Rattle.ps_graph.proofs.graph.Graph.intensive_blocker.Given as goal

abbrev pub invariant-loop-number : goal.invariant-loop-number
invariant-loop-number g l = record {
  chosen : l.chosen ≡ chosen_below (wires_of l.self.pipes.slots) (are_intensive g.N.ComputeNode.intensive l.self) l.number;
  most : l.most ≡ readers_at (wires_of l.self.pipes.slots) (chosen_below (wires_of l.self.pipes.slots) (are_intensive g.N.ComputeNode.intensive l.self) l.number);
}
