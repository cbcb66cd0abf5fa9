-- What it is for a node of a shape to stand for another node.
use Rattle.std.specs.Prelude.{◌≡◌, ◌↔◌, ℕ, Some, slice_get}
use Rattle.ps_frame.specs.Causes.{Cause}
use Rattle.ps_frame.specs.Functions.{Functions}
use Rattle.ps_frame.specs.Tables.{Table}
use Rattle.ps_meaning.specs.Shape.{PhysicalBrokenBy, PhysicalIsLarge, PhysicalMeans, PhysicalNode, Shape}

-- The node n of the shape has the schema and the origin of the node m, and means the same tables. What breaks it breaks that one, and where it is large that one is.
pub record StandsFor (F : Functions) (nodes : Shape) (m : ℕ) (shape : Shape) (n : ℕ) : Type 0 where
  pub node : (p : PhysicalNode) → slice_get shape n ≡ Some p → (q : PhysicalNode) × (slice_get nodes m ≡ Some q) × (p.schema ≡ q.schema) × (p.origin ≡ q.origin)
  pub tables : (T : Table) → PhysicalMeans F shape n T ↔ PhysicalMeans F nodes m T
  pub causes : (c : Cause) → PhysicalBrokenBy F shape n c → PhysicalBrokenBy F nodes m c
  pub sizes : PhysicalIsLarge F shape n → PhysicalIsLarge F nodes m
