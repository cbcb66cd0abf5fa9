-- No node so far was a sink, and the others are left.
use Rattle.std.proofs.Common.{◌≡◌, ◌≢◌, ◌≤◌, ◌<◌, ℕ, Some}
use Rattle.std.specs.Prelude.{slice_get}
use Rattle.keyed_slots.specs.Slots.{value_at}
use Rattle.ps_flow.proofs.world.World.output.Given as goal
use Rattle.ps_flow.specs.Standing.{Stands}
use Rattle.ps_meaning.specs.Shape.{in_memory_sink}
use Rattle.ps_world.specs.World.{Node, World}

abbrev pub invariant-loop-number : goal.invariant-loop-number
invariant-loop-number g l = record {
  others : (k : ℕ) → l.number ≤ k → value_at l.self.graph.nodes.slots k ≡ value_at l.fn.self.graph.nodes.slots k;
  none : (w : World) (k : ℕ) (x : Node) → Stands g.N.RunNode.Has w l.fn.self → k < l.number → slice_get w.nodes k ≡ Some x → x.node.kind ≢ in_memory_sink;
}
