-- The ports of zips and multiplexers of a shape.
use Rattle.std.proofs.Common.{◌≡◌, ℕ, Bool, Some, ap, ◌∙◌}
use Rattle.std.specs.Prelude.{slice_get}
use Rattle.ps_frame.specs.Functions.{Functions}
use Rattle.ps_meaning.specs.Shape.{PhysicalNode, multiplexer, zip_node}
use Rattle.ps_world.specs.Laws.{PortLaw}
use Rattle.ps_world.specs.Updates.{IsSettled}
use Rattle.ps_world.specs.World.{World, shape_of}
use Rattle.world_claims.specs.Numbering.{Known}
use Rattle.family_pipes.proofs.Sent.{node_of}
use Rattle.zip_laws.proofs.MultiplexerPorts.{multiplexer_ports}
use Rattle.zip_laws.proofs.ZipPorts.{zip_ports}

pub zips_lead : (F : Functions) (s : World) (n : ℕ) (p : PhysicalNode) (extend : Bool) → Known F s → slice_get (shape_of s) n ≡ Some p → p.kind ≡ zip_node extend → IsSettled s → PortLaw s n
zips_lead F s n p extend known e is rest = let x = node_of s n p e in zip_ports F s known rest n x.0 extend x.1 (ap (λ (q : PhysicalNode). q.kind) x.2 ∙ is)

pub multiplexers_lead : (F : Functions) (s : World) (n : ℕ) (p : PhysicalNode) → Known F s → slice_get (shape_of s) n ≡ Some p → p.kind ≡ multiplexer → IsSettled s → PortLaw s n
multiplexers_lead F s n p known e is rest = let x = node_of s n p e in multiplexer_ports F s known rest n x.0 x.1 (ap (λ (q : PhysicalNode). q.kind) x.2 ∙ is)
