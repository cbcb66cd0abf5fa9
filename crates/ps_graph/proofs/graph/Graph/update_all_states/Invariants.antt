-- The sweeps so far; what may still change falls with each two of them.
use Rattle.std.proofs.Common.{◌≡◌, ◌+◌, ℕ, false}
use Rattle.ps_settle.specs.Sweeps.{Swept, left}
use Rattle.ps_graph.specs.Marking.{is_marked}
use Rattle.ps_graph.specs.Shown.{CanRun, standing_of}
use Rattle.ps_graph.specs.Turning.{origins_of}
use Rattle.ps_graph.proofs.graph.Graph.update_all_states.Given as goal

abbrev pub invariant-loop-error : goal.invariant-loop-error
invariant-loop-error g l = record {
  can : CanRun g.N.ComputeNode.HasPorts l.self;
  ticks : ℕ;
  counted : l.steps ≡ l.fn.steps + ticks;
  swept : Swept g.N.ComputeNode.stages g.N.ComputeNode.Update (standing_of l.fn.self) (standing_of l.self) (is_marked l.upward) ticks;
  fresh : (n : ℕ) → is_marked l.downward n ≡ false;
  origins : origins_of l.self.nodes.slots ≡ origins_of l.fn.self.nodes.slots;
}

abbrev pub decreases-loop-error : goal.decreases-loop-error
decreases-loop-error g l = left g.N.ComputeNode.stages (standing_of l.self)
