-- The texts of physical plans, and one plan in arenas with its physical plan.
use Rattle.std.specs.Prelude.{ℕ, false, List, [], ◌∷◌, ◌++◌, None, codes}
use Rattle.pu_base.specs.declared.arena.Node.{Node}
use Rattle.ps_frame.specs.Functions.{Functions}
use Rattle.ps_frame.specs.Tables.{Fields}
use Rattle.ps_frame.specs.declared.expr.AExpr.TheVariants as expr
use Rattle.ps_frame.specs.declared.expr.IRAggExpr.TheVariants as agg
use Rattle.ps_frame.specs.declared.value.DataType.TheVariants as kind
use Rattle.ps_meaning.specs.PlanTrees.{PlanTree}
use Rattle.ps_meaning.specs.Shape.{PhysicalKind, PhysicalNode, Shape, in_memory_sink, in_memory_source, multiplexer, reduce, select_node, zip_node}
use Rattle.ps_meaning.specs.Steps.{Name}
use Rattle.ps_meaning.specs.declared.options.ExprIR.{ExprIR}
use Rattle.ps_meaning.specs.declared.options.OutputName.TheVariants as output
use Rattle.ps_meaning.specs.declared.options.SinkType.TheVariants as sink_type
use Rattle.ps_phys.specs.Printed.{plan_text}
use Rattle.ps_phys.specs.Walks.{Stream}
use Rattle.ps_plan.specs.Plans.{Plan}
use Rattle.ps_plan.specs.declared.ir.IR.TheVariants as entry
use Rattle.ps_rules.specs.Names.{temporary}
use Rattle.ps_rules.specs.Worked.{a_name, ab_fields, b_name, col_a, col_b, column_of, counter, sum_of}
use Rattle.plan_rules.specs.Worked.{ab}
use Rattle.physical_plans.specs.PhysicalPlans.{physical_shape}

-- the text of a physical plan where no name is one that a counter gives
abbrev pub physical_text : Functions → PlanTree → List ℕ
physical_text F t = plan_text (physical_shape F (counter [] 0) t)

abbrev pub node_of : ℕ → Node
node_of n = record { 0 = n }

-- an expression's number under a name
abbrev pub named : Name → ℕ → ExprIR
named name e = record { node = node_of e; output_name = output.Alias name }

-- a scan of the columns a and b, a select of the sum of a under the name s and of b, and a sink
abbrev pub sum_beside_b : Plan
sum_beside_b =
    record {
      nodes = entry.DataFrameScan ab None ∷ entry.Select (node_of 0) (named (codes "s") 1 ∷ named b_name 2 ∷ []) ∷ entry.Sink (node_of 1) sink_type.Memory ∷ [];
      exprs = expr.Column a_name ∷ expr.Agg (agg.Sum (node_of 0)) ∷ expr.Column b_name ∷ [];
      root = node_of 2;
    }

abbrev pub made_for : (origin : ℕ) → PhysicalKind → Fields → List Stream → PhysicalNode
made_for origin kind schema inputs = record { kind = kind; schema = schema; origin = origin; inputs = inputs }

abbrev pub summed : Fields
summed = (temporary 0, kind.Int64) ∷ []

abbrev pub selected : Fields
selected = (codes "s", kind.Int64) ∷ (b_name, kind.Int64) ∷ []

-- the scan has two readers: the zip, and the reduce that it reads beside it
abbrev pub physical_sum_beside_b : Shape
physical_sum_beside_b =
    made_for 0 (in_memory_source ab) ab_fields []
    ∷ made_for 0 multiplexer ab_fields ((0, 0) ∷ [])
    ∷ made_for 1 (reduce ((temporary 0, sum_of col_a) ∷ [])) summed ((1, 1) ∷ [])
    ∷ made_for 1 (zip_node false) (ab_fields ++ summed) ((1, 0) ∷ (2, 0) ∷ [])
    ∷ made_for 1 (select_node ((codes "s", column_of 0) ∷ (b_name, col_b) ∷ []) false) selected ((3, 0) ∷ [])
    ∷ made_for 2 in_memory_sink selected ((4, 0) ∷ []) ∷ []
