-- The sweep so far, by as many updates as steps were taken.
use Rattle.std.proofs.Common.{◌≡◌, ◌+◌, ◌-◌, ℕ, length}
use Rattle.ps_settle.specs.Sweeps.{SweptUp}
use Rattle.ps_graph.specs.Marking.{is_marked}
use Rattle.ps_graph.specs.Shown.{CanRun, standing_of}
use Rattle.ps_graph.specs.Turning.{origins_of}
use Rattle.ps_graph.proofs.graph.Graph.sweep_up.Given as goal

abbrev pub invariant-loop-number : goal.invariant-loop-number
invariant-loop-number g l = record {
  can : CanRun g.N.ComputeNode.HasPorts l.self;
  ticks : ℕ;
  counted : l.steps ≡ l.fn.steps + ticks;
  swept : SweptUp g.N.ComputeNode.stages g.N.ComputeNode.Update (standing_of l.fn.self) (standing_of l.self) (is_marked l.here) (is_marked l.later) ticks;
  origins : origins_of l.self.nodes.slots ≡ origins_of l.fn.self.nodes.slots;
}

abbrev pub decreases-loop-number : goal.decreases-loop-number
decreases-loop-number g l = length l.fn.self.nodes.slots + l.fn.steps - l.steps
