-- The flags of the nodes from here on are those of the phase.
use Rattle.std.proofs.Common.{◌≡◌, ℕ, ◌<◌, ◌≤◌, false, get_or, length}
use Rattle.ps_graph.specs.Running.{flag_of, phase_blockers}
use Rattle.ps_graph.specs.Shown.{wires_of}
use Rattle.ps_graph.proofs.graph.Graph.flags.Given as goal

abbrev pub invariant-loop-number : goal.invariant-loop-number
invariant-loop-number g l = record {
  long : length l.flags.items ≡ length l.self.nodes.slots;
  each : (m : ℕ) → l.number ≤ m → m < length l.self.nodes.slots → get_or l.flags.items m false ≡ flag_of (wires_of l.self.pipes.slots) (phase_blockers g.N.ComputeNode.intensive l.self) l.flags.items m;
}
