-- What elementwise operators give of a row of values, and of columns side by side.
use Rattle.std.specs.Prelude.{◌≡◌, List, map, Bool, true, false, not, Option, Some, None, if◌then◌else◌}
use Rattle.ps_expr_eval.specs.Held.{cells_of, ending_of}
use Rattle.ps_expr_eval.specs.Lengths.{ending_fault, extent_held}
use Rattle.ps_expr_eval.specs.Rows.{cells_from}
use Rattle.ps_expr_eval.specs.declared.elementwise.Unary.{Unary}
use Rattle.ps_expr_eval.specs.declared.elementwise.Unary.TheVariants as unary
use Rattle.ps_expr_eval.specs.declared.computed.ComputedColumn.{ComputedColumn}
use Rattle.ps_frame.specs.Eval.{at}
use Rattle.ps_frame.specs.Operators.{binary_value, cast_value, choice_of, not_value}
use Rattle.ps_frame.specs.Typing.{compares}
use Rattle.ps_frame.specs.Values.{is_null}
use Rattle.ps_frame.specs.Zip.{zip_length}
use Rattle.ps_frame.specs.declared.expr.Operator.{Operator}
use Rattle.ps_frame.specs.declared.value.Cell.{Cell as Held}
use Rattle.ps_frame.specs.declared.value.Cell.TheVariants as held
use Rattle.ps_frame.specs.declared.value.DataFault.TheVariants as fault
use Rattle.ps_frame.specs.declared.value.DataType.{DataType}
use Rattle.ps_frame.specs.declared.value.DataType.TheVariants as kind
use Rattle.ps_frame.specs.declared.value.Value.{Value}
use Rattle.ps_frame.specs.declared.value.Value.TheVariants as val

-- a column has what f gives of each row of the operands, and ends as they do side by side
pub record IsCellwise (f : List Value → Held) (operands : List ComputedColumn) (p : ComputedColumn) : Type 0 where
  pub cells : cells_of p.cells ≡ cells_from f operands (zip_length false (map extent_held (map ending_of operands)))
  pub fault : p.fault ≡ ending_fault (map ending_of operands)

-- a row of two values
abbrev pub binary_row : Operator → List Value → Held
binary_row o row = held.Val (binary_value o (at 0 row) (at 1 row))

-- the kind of what an operator of two operands gives
abbrev pub result_kind : Operator → DataType → DataType
result_kind o k = if compares o then kind.Boolean else k

-- the cell of a cast: what has no value there is faulty where the cast is strict, else null
abbrev pub cast_held : Bool → Option Value → Held
cast_held strict (Some v) = held.Val v
cast_held true None = held.Bad fault.StrictCast
cast_held false None = held.Val val.Null

-- a row of one value
abbrev pub unary_row : Unary → List Value → Held
unary_row (unary.Cast k strict) row = cast_held strict (cast_value k (at 0 row))
unary_row unary.Not row = held.Val (not_value (at 0 row))
unary_row unary.IsNull row = held.Val (val.Boolean (is_null (at 0 row)))
unary_row unary.IsNotNull row = held.Val (val.Boolean (not (is_null (at 0 row))))

abbrev pub unary_kind : Unary → DataType
unary_kind (unary.Cast k strict) = k
unary_kind unary.Not = kind.Boolean
unary_kind unary.IsNull = kind.Boolean
unary_kind unary.IsNotNull = kind.Boolean

-- a row of a predicate and two branches
abbrev pub ternary_row : List Value → Held
ternary_row row = held.Val (choice_of (at 0 row) (at 1 row) (at 2 row))
