-- Operands of which the values are known.
use Rattle.std.specs.Prelude.{◌≡◌, ℕ, List, map, get_or, slice_get, IfSome, Option, Some, option_and_then, if◌then◌else◌}
use Rattle.std.specs.Option.{option_map_or}
use Rattle.ps_expr_eval.specs.Held.{cells_of}
use Rattle.ps_expr_eval.specs.Rows.{repeats}
use Rattle.ps_expr_eval.specs.declared.computed.ComputedColumn.{ComputedColumn}
use Rattle.ps_expr_eval.specs.declared.operand.Operand.{Operand}
use Rattle.ps_frame.specs.Gathered.{ArePicked}
use Rattle.ps_frame.specs.Operators.{binary_value}
use Rattle.ps_frame.specs.Zip.{below}
use Rattle.ps_frame.specs.declared.expr.Operator.{Operator}
use Rattle.ps_frame.specs.declared.value.Cell.TheVariants as held
use Rattle.ps_frame.specs.declared.value.Value.{Value}
use Rattle.ps_frame.specs.declared.value.Value.TheVariants as val

-- where the values of an operand are picked of others, these are their places
abbrev pub IsPlaced : Operand → Type 0
IsPlaced o = IfSome o.picks (λ p. ArePicked o.values p.0.now p.1)

-- the operand has a column's values
pub record IsOperand (o : Operand) (p : ComputedColumn) : Type 0 where
  pub cells : cells_of p.cells ≡ map held.Val o.values
  pub repeating : o.repeats ≡ repeats p
  pub placed : IsPlaced o

-- the place, among those of which the values are picked, of the value that gives a row, and how many these are
abbrev pub place_for : Operand → ℕ → Option ℕ
place_for o row = if o.repeats then Some 0 else option_and_then (λ p. slice_get p.0.now row) o.picks

abbrev pub count_for : Operand → ℕ
count_for o = if o.repeats then 1 else option_map_or (λ p. p.1) o.picks 0

-- the value that gives a row: the only one where it repeats
abbrev pub value_for : Operand → ℕ → Value
value_for o row = get_or o.values (if o.repeats then 0 else row) val.Null

-- what an operator gives of two operands in each of the first n rows
abbrev pub values_from : Operator → Operand → Operand → ℕ → List Value
values_from op left right n = map (λ row. binary_value op (value_for left row) (value_for right row)) (below n)
