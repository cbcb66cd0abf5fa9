-- A select over the scan of a whole table, in a plan and in what lowering makes first.
use Rattle.std.specs.Prelude.{◌≡◌, ℕ, List, [], Some, None, slice_get}
use Rattle.pu_base.specs.declared.arena.Node.{Node}
use Rattle.ps_frame.specs.Tables.{Frame}
use Rattle.ps_meaning.specs.Shape.{in_memory_source}
use Rattle.ps_meaning.specs.declared.options.ExprIR.{ExprIR}
use Rattle.ps_plan.specs.Graph.{Reached}
use Rattle.ps_plan.specs.Plans.{Plan}
use Rattle.ps_plan.specs.declared.ir.IR.TheVariants as entry
use Rattle.ps_rules.specs.Slots.{Made, State, insert_node}

-- the node selects these expressions over another one, which the root leads to as well
pub record SelectsFrom (plan : Plan) (n : ℕ) (asked : List ExprIR) (input : Node) : Type 0 where
  pub select : slice_get plan.nodes n ≡ Some (entry.Select input asked)
  pub reached : Reached plan input.0

-- the node scans the whole table
abbrev pub ScansWhole : Plan → ℕ → Frame → Type 0
ScansWhole plan n table = slice_get plan.nodes n ≡ Some (entry.DataFrameScan table None)

-- some node that the root leads to selects these expressions over a scan of the whole table
pub record SelectsScan (plan : Plan) (asked : List ExprIR) (table : Frame) : Type 0 where
  pub at : ℕ
  pub reached : Reached plan at
  pub scan : Node
  pub from : SelectsFrom plan at asked scan
  pub table_is : ScansWhole plan scan.0 table

-- the source of a table, made by a node of the plan
abbrev pub source_made : State → ℕ → Frame → Made
source_made s origin table = insert_node s (record { kind = in_memory_source table; schema = table.schema; origin = origin; inputs = [] })
