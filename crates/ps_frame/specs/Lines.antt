-- The line that tells why a query gives no table.
use Rattle.std.specs.Prelude.{ℕ, List, ◌++◌, codes}
use Rattle.std.specs.Fmt.{decimal}
use Rattle.ps_frame.specs.declared.expr.What.{What}
use Rattle.ps_frame.specs.declared.expr.What.TheVariants as what
use Rattle.ps_frame.specs.declared.refusal.Bound.{Bound}
use Rattle.ps_frame.specs.declared.refusal.Bound.TheVariants as bound
use Rattle.ps_frame.specs.declared.refusal.Compute.{Compute}
use Rattle.ps_frame.specs.declared.refusal.Compute.TheVariants as compute
use Rattle.ps_frame.specs.declared.refusal.PolarsError.{PolarsError}
use Rattle.ps_frame.specs.declared.refusal.PolarsError.TheVariants as refusal
use Rattle.ps_frame.specs.declared.refusal.Why.{Why}
use Rattle.ps_frame.specs.declared.refusal.Why.TheVariants as why

-- the names of the reasons
abbrev pub why_name : Why → List ℕ
why_name why.Shape = codes "Shape"
why_name why.Keys = codes "Keys"
why_name why.Limits = codes "Limits"

abbrev pub compute_name : Compute → List ℕ
compute_name compute.NoKey = codes "NoKey"
compute_name compute.StrictCast = codes "StrictCast"
compute_name compute.SliceBound = codes "SliceBound"
compute_name compute.Function = codes "Function"

abbrev pub bound_name : Bound → List ℕ
bound_name bound.RowIndex = codes "RowIndex"
bound_name bound.Gather = codes "Gather"
bound_name bound.Rows = codes "Rows"

abbrev pub what_name : What → List ℕ
what_name what.Validation = codes "Validation"
what_name what.NoColumns = codes "NoColumns"
what_name what.LiteralAggregate = codes "LiteralAggregate"
what_name what.RootNotSink = codes "RootNotSink"
what_name what.FileSink = codes "FileSink"
what_name what.Alias = codes "Alias"
what_name what.Explode = codes "Explode"
what_name what.Implode = codes "Implode"
what_name what.AggGroups = codes "AggGroups"
what_name what.Window = codes "Window"
what_name what.AnonymousFunction = codes "AnonymousFunction"
what_name what.SeriesLiteral = codes "SeriesLiteral"
what_name what.FloatLiteral = codes "FloatLiteral"
what_name what.Mean = codes "Mean"
what_name what.Var = codes "Var"
what_name what.Std = codes "Std"
what_name what.Median = codes "Median"
what_name what.Quantile = codes "Quantile"
what_name what.TrueDivide = codes "TrueDivide"
what_name what.Scan = codes "Scan"
what_name what.PythonScan = codes "PythonScan"
what_name what.ExtContext = codes "ExtContext"
what_name what.Invalid = codes "Invalid"
what_name what.MergeSorted = codes "MergeSorted"
what_name what.OtherFunction = codes "OtherFunction"
what_name what.AsOfJoin = codes "AsOfJoin"
what_name what.InequalityJoin = codes "InequalityJoin"
what_name what.GroupByApply = codes "GroupByApply"
what_name what.DynamicGroupBy = codes "DynamicGroupBy"
what_name what.RollingGroupBy = codes "RollingGroupBy"

-- where it stands
abbrev pub at_node : ℕ → List ℕ
at_node n = codes " at " ++ decimal n

-- a variant, why, the node and a name, as far as it has them
abbrev pub refusal_line : PolarsError → List ℕ
refusal_line (refusal.InvalidPlan n w) = codes "InvalidPlan " ++ why_name w ++ at_node n.0
refusal_line (refusal.ColumnNotFound n name) = codes "ColumnNotFound" ++ at_node n.0 ++ codes ": " ++ name
refusal_line (refusal.Duplicate n name) = codes "Duplicate" ++ at_node n.0 ++ codes ": " ++ name
refusal_line (refusal.SchemaMismatch n) = codes "SchemaMismatch" ++ at_node n.0
refusal_line (refusal.ComputeError n w) = codes "ComputeError " ++ compute_name w ++ at_node n.0
refusal_line (refusal.ShapeMismatch n) = codes "ShapeMismatch" ++ at_node n.0
refusal_line (refusal.OutOfBounds n w) = codes "OutOfBounds " ++ bound_name w ++ at_node n.0
refusal_line (refusal.Unsupported n w) = codes "Unsupported " ++ what_name w ++ at_node n.0
refusal_line refusal.OutOfMemory = codes "OutOfMemory"
