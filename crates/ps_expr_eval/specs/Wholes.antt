-- What takes whole columns.
use Rattle.std.specs.Prelude.{◌≡◌, List, [], ◌∷◌, map, Option, Some, None, ℕ, ℤ, Bool}
use Rattle.ps_expr_eval.specs.Held.{Keeps, cells_of, first_fault, held_values, or_else}
use Rattle.ps_expr_eval.specs.declared.computed.ComputedColumn.{ComputedColumn}
use Rattle.ps_frame.specs.Aggregates.{aggregate_column}
use Rattle.ps_frame.specs.Causes.{Column, whole_column}
use Rattle.ps_frame.specs.Eval.{at, no_slice, operand, picked, slice_column}
use Rattle.ps_frame.specs.Sorting.{values_in_order}
use Rattle.ps_frame.specs.Trees.{Aggregation}
use Rattle.ps_frame.specs.declared.expr.FunctionExpr.{FunctionExpr}
use Rattle.ps_frame.specs.declared.expr.FunctionExpr.TheVariants as fun
use Rattle.ps_frame.specs.declared.expr.IRAggExpr.{IRAggExpr}
use Rattle.ps_frame.specs.declared.expr.IRAggExpr.TheVariants as agg
use Rattle.ps_frame.specs.declared.value.DataFault.{DataFault}
use Rattle.ps_frame.specs.declared.value.DataType.{DataType}
use Rattle.ps_frame.specs.declared.value.DataType.TheVariants as kind
use Rattle.ps_frame.specs.declared.value.Value.{Value}
use Rattle.ps_frame.specs.declared.value.Value.TheVariants as val
use Rattle.pu_base.specs.declared.arena.Node.{Node}

-- the values of a column
abbrev pub values_in : ComputedColumn → List Value
values_in p = held_values (cells_of p.cells)

-- one of the faults of columns, that of the first that has one
abbrev pub first_fault_of : List ComputedColumn → Option DataFault
first_fault_of [] = None
first_fault_of (p ∷ ps) = or_else (first_fault p) (first_fault_of ps)

-- no cells and a fault, or else what is held of a column
abbrev pub EndsOr : Option DataFault → Column → ComputedColumn → Type 0
EndsOr (Some f) c p = (cells_of p.cells ≡ []) × (p.fault ≡ Some f)
EndsOr None c p = Keeps p c

-- a column is ended by a fault of the operands, or else it is what f gives of their values
pub record IsOfWhole (f : List (List Value) → Column) (operands : List ComputedColumn) (p : ComputedColumn) : Type 0 where
  pub holds : EndsOr (first_fault_of operands) (f (map values_in operands)) p

-- an aggregate, and the number of the entry that it takes
abbrev pub aggregation_of : IRAggExpr → Aggregation
aggregation_of (agg.Min n) = Aggregation.min
aggregation_of (agg.Max n) = Aggregation.max
aggregation_of (agg.First n) = Aggregation.first
aggregation_of (agg.Last n) = Aggregation.last
aggregation_of (agg.Sum n) = Aggregation.sum
aggregation_of (agg.NUnique n) = Aggregation.n_unique
aggregation_of (agg.Count n all) = Aggregation.count all

abbrev pub aggregated_of : IRAggExpr → Node
aggregated_of (agg.Min n) = n
aggregated_of (agg.Max n) = n
aggregated_of (agg.First n) = n
aggregated_of (agg.Last n) = n
aggregated_of (agg.Sum n) = n
aggregated_of (agg.NUnique n) = n
aggregated_of (agg.Count n all) = n

-- the kind of a sum of values of a kind
abbrev pub summed_kind : DataType → DataType
summed_kind kind.Boolean = kind.IdxSize
summed_kind k = k

-- the kind of what an aggregate gives of values of a kind
abbrev pub aggregated_kind : Aggregation → DataType → DataType
aggregated_kind Aggregation.sum k = summed_kind k
aggregated_kind Aggregation.n_unique k = kind.IdxSize
aggregated_kind (Aggregation.count all) k = kind.IdxSize
aggregated_kind Aggregation.min k = k
aggregated_kind Aggregation.max k = k
aggregated_kind Aggregation.first k = k
aggregated_kind Aggregation.last k = k

-- the kind of what a function gives of values of a kind
abbrev pub called_kind : FunctionExpr → DataType → DataType
called_kind fun.Not k = kind.Boolean
called_kind fun.IsNull k = kind.Boolean
called_kind fun.IsNotNull k = kind.Boolean
called_kind fun.Reverse k = k

-- a sort, a gather and a slice of the values of whole columns
abbrev pub sorts : Bool → Bool → List (List Value) → Column
sorts descending nulls_last vs = whole_column (values_in_order (record { descending = descending; nulls_last = nulls_last }) (operand 0 vs))

abbrev pub picked_column : ℕ → List Value → List Value → Column
picked_column node values indices = record { cells = map (picked node values) indices; broken = []; lost = [] }

abbrev pub gathers : ℕ → List (List Value) → Column
gathers node vs = picked_column node (operand 0 vs) (operand 1 vs)

abbrev pub slices : ℕ → List (List Value) → Column
slices node vs = slice_column node (operand 0 vs) (at 0 (operand 1 vs)) (at 0 (operand 2 vs))

-- the number of an Int64
abbrev pub int_of : Value → Option ℤ
int_of (val.Int64 z) = Some z
int_of _ = None

-- a slice by an offset and a length that may be there
abbrev pub slice_of : ℕ → List Value → Option ℤ → Option ℤ → Column
slice_of node vs (Some o) (Some l) = slice_column node vs (val.Int64 o) (val.Int64 l)
slice_of node vs _ _ = no_slice node

-- an aggregate of the values of a whole column of a kind
abbrev pub aggregates : ℕ → Aggregation → DataType → List (List Value) → Column
aggregates node a k vs = aggregate_column node a (Some k) (operand 0 vs)
