-- Small plans that are refused.
use Rattle.std.specs.Prelude.{ℕ, zero, suc, ◌+◌, Bool, true, false, List, [], ◌∷◌, None, codes, pos}
use Rattle.pu_base.specs.declared.arena.Node.{Node}
use Rattle.ps_frame.specs.Tables.{Frame}
use Rattle.ps_frame.specs.declared.expr.AExpr.{AExpr}
use Rattle.ps_frame.specs.declared.expr.AExpr.TheVariants as expr
use Rattle.ps_frame.specs.declared.expr.LiteralValue.TheVariants as lit
use Rattle.ps_frame.specs.declared.expr.Operator.TheVariants as op
use Rattle.ps_frame.specs.declared.expr.What.TheVariants as what
use Rattle.ps_plan.specs.Plans.{Plan}
use Rattle.ps_meaning.specs.Steps.{Name}
use Rattle.ps_meaning.specs.declared.options.ExprIR.{ExprIR}
use Rattle.ps_meaning.specs.declared.options.FunctionIR.TheVariants as call
use Rattle.ps_plan.specs.declared.ir.IR.{IR}
use Rattle.ps_plan.specs.declared.ir.IR.TheVariants as entry
use Rattle.ps_meaning.specs.declared.options.OutputName.TheVariants as output
use Rattle.ps_meaning.specs.declared.options.SinkType.TheVariants as sink_type
use Rattle.plan_laws.specs.Examples.{a_frame}

abbrev pub node_of : ℕ → Node
node_of n = record { 0 = n }

-- an expression's number under a name
abbrev pub named : Name → ℕ → ExprIR
named name e = record { node = node_of e; output_name = output.Alias name }

-- the column of a name, the number 1, and whether the column is greater
abbrev pub above_one : Name → List AExpr
above_one name = expr.Column name ∷ expr.Literal (lit.Int64 (pos 1)) ∷ expr.BinaryExpr (node_of 0) op.Gt (node_of 1) ∷ []

-- a scan of column a, a node over it, and a sink
abbrev pub over_a : IR → List AExpr → ℕ → Plan
over_a e exprs root = record { nodes = entry.DataFrameScan (a_frame (1 ∷ 2 ∷ 3 ∷ [])) None ∷ e ∷ entry.Sink (node_of 1) sink_type.Memory ∷ []; exprs = exprs; root = node_of root }

-- filters: by a > 1, by z > 1, by the number 1, and by an expression that is left out
abbrev pub filter_by : ℕ → IR
filter_by e = entry.Filter (node_of 0) (named (codes "p") e)

abbrev pub root_below_sink : Plan
root_below_sink = over_a (filter_by 2) (above_one (codes "a")) 1

abbrev pub unknown_column : Plan
unknown_column = over_a (filter_by 2) (above_one (codes "z")) 2

abbrev pub number_as_predicate : Plan
number_as_predicate = over_a (filter_by 1) (above_one (codes "a")) 2

abbrev pub window_in_predicate : Plan
window_in_predicate = over_a (filter_by 2) (expr.LeftOut what.Window ∷ expr.Literal (lit.Int64 (pos 1)) ∷ expr.BinaryExpr (node_of 0) op.Gt (node_of 1) ∷ []) 2

-- a sink over a sink
abbrev pub two_sinks : Plan
two_sinks = over_a (entry.Sink (node_of 0) sink_type.Memory) [] 2

-- the function of a number
abbrev pub by_function : ℕ → Plan
by_function n = over_a (entry.MapFunction (node_of 0) (call.User n)) [] 2

-- a sort by these keys, a group-by, a select and a projection
abbrev pub sort_by_keys : List ExprIR → List Bool → List Bool → Plan
sort_by_keys keys descending nulls_last = over_a (entry.Sort (node_of 0) keys None (record { descending = descending; nulls_last = nulls_last })) [] 2

abbrev pub group_by_keys : List ExprIR → List ExprIR → List AExpr → Plan
group_by_keys keys aggs exprs = over_a (entry.GroupBy (node_of 0) keys aggs false (record { slice = None })) exprs 2

abbrev pub select_all : List ExprIR → List AExpr → Plan
select_all es exprs = over_a (entry.Select (node_of 0) es) exprs 2

abbrev pub project_all : List Name → Plan
project_all names = over_a (entry.SimpleProjection (node_of 0) names) [] 2

-- a filter that is its own input, under a sink
abbrev pub circle : Plan
circle =
    record {
      nodes = entry.Filter (node_of 0) (named (codes "p") 0) ∷ entry.Sink (node_of 0) sink_type.Memory ∷ [];
      exprs = expr.Literal (lit.Boolean true) ∷ [];
      root = node_of 1;
    }

-- n unions from node i on, and a sink; each is of the node before it twice
abbrev pub unions_from : ℕ → ℕ → List IR
unions_from i zero = entry.Sink (node_of i) sink_type.Memory ∷ []
unions_from i (suc n) = entry.Union (node_of i ∷ node_of i ∷ []) (record { slice = None }) ∷ unions_from (i + 1) n

-- a scan under forty unions
abbrev pub doubling_plan : Frame → Plan
doubling_plan f = record { nodes = entry.DataFrameScan f None ∷ unions_from 0 40; exprs = []; root = node_of 41 }
