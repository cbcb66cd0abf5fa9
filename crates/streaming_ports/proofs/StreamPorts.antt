-- The third part of the law of every streaming node.
use Rattle.std.proofs.Common.{◌≡◌, ℕ, Some, refl, sym, subst}
use Rattle.std.specs.Prelude.{slice_get}
use Rattle.ps_frame.specs.Functions.{Functions}
use Rattle.ps_meaning.specs.Shape.{PhysicalKind, PhysicalNode, in_memory_sink, in_memory_source, independent_select, ordered_union}
use Rattle.ps_world.specs.Booking.{IsPassing}
use Rattle.ps_world.specs.Laws.{PortLaw}
use Rattle.ps_world.specs.Updates.{IsSettled}
use Rattle.ps_world.specs.World.{World, shape_of}
use Rattle.world_claims.specs.Numbering.{Known}
use Rattle.family_pipes.proofs.Sent.{node_of}
use Rattle.world_families.specs.Sources.{IsSource}
use Rattle.world_families.specs.Kinds.{IsStreaming}
use Rattle.streaming_ports.proofs.OnePort.{passing_ports, sink_ports, source_ports}
use Rattle.streaming_ports.proofs.UnionPorts.{union_ports}

pub streaming_ports : (F : Functions) (s : World) (n : ℕ) (p : PhysicalNode) → Known F s → slice_get (shape_of s) n ≡ Some p → IsStreaming p.kind → IsSettled s → PortLaw s n
streaming_ports F s n p known e is rest = by (node_of s n p e).0.node.kind refl (subst (λ (q : PhysicalNode). IsStreaming q.kind) (sym (node_of s n p e).2) is)
  where
    by : (kind : PhysicalKind) → (node_of s n p e).0.node.kind ≡ kind → IsStreaming kind → PortLaw s n
    by (in_memory_source t) k h = source_ports F s known rest n (node_of s n p e).0 (node_of s n p e).1 (subst IsSource (sym k) tt)
    by (independent_select es) k h = source_ports F s known rest n (node_of s n p e).0 (node_of s n p e).1 (subst IsSource (sym k) tt)
    by in_memory_sink k h = sink_ports F s known rest n (node_of s n p e).0 (node_of s n p e).1 k
    by ordered_union k h = union_ports F s known rest n (node_of s n p e).0 (node_of s n p e).1 k
    by kind k h = passing_ports F s known rest n (node_of s n p e).0 (node_of s n p e).1 (subst IsPassing (sym k) h)
