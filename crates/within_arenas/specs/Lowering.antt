-- What lowering keeps of a plan, whatever its steps are and however large its tables.
use Rattle.std.specs.Prelude.{◌≡◌, ◌⊎◌, ℕ, Some, slice_get}
use Rattle.ps_frame.specs.Causes.{Cause}
use Rattle.ps_frame.specs.Functions.{Functions}
use Rattle.ps_frame.specs.Tables.{Table}
use Rattle.ps_meaning.specs.Shape.{PhysicalBrokenBy, PhysicalIsLarge, PhysicalMeans, PhysicalNode, Shape}
use Rattle.ps_meaning.specs.Within.{Within}
use Rattle.ps_plan.specs.PlanMeanings.{NodeBrokenBy, NodeIsLarge, PlanMeans}
use Rattle.ps_plan.specs.Plans.{Plan}

-- Its tables lie within those of the plan. What a node makes breaks the plan's node of its origin, and where it is large that one is, unless some table at or under that one is large anyway.
pub record IsLoweringOrLarge (F : Functions) (plan : Plan) (shape : Shape) (root : ℕ) : Type 0 where
  pub tables : (T : Table) → PhysicalMeans F shape root T → (L : Table) × PlanMeans F plan plan.root.0 L × Within T L
  pub causes : (n : ℕ) (p : PhysicalNode) (c : Cause) → slice_get shape n ≡ Some p → c.node ≡ p.origin → PhysicalBrokenBy F shape n c → NodeBrokenBy F plan p.origin c ⊎ NodeIsLarge F plan p.origin
  pub sizes : (n : ℕ) (p : PhysicalNode) → slice_get shape n ≡ Some p → PhysicalIsLarge F shape n → NodeIsLarge F plan p.origin
