-- What an operator gave of pairs of values that operands show in several rows.
use Rattle.std.specs.Prelude.{◌≡◌, ◌<◌, ◌+◌, ◌*◌, ℕ, IfSome, Some}
use Rattle.std.specs.BTreeMap.{get}
use Rattle.std.specs.Ordering.{nat_cmp}
use Rattle.ps_expr_eval.specs.Operands.{count_for, place_for, value_for}
use Rattle.ps_expr_eval.specs.declared.decided.Decided.{Decided}
use Rattle.ps_expr_eval.specs.declared.operand.Operand.{Operand}
use Rattle.ps_frame.specs.Operators.{binary_value}
use Rattle.ps_frame.specs.declared.expr.Operator.{Operator}
use Rattle.ps_frame.specs.declared.value.Value.TheVariants as val

-- the number of a pair: the places that give a row of two operands
pub record IsPair (left right : Operand) (row : ℕ) (pair : ℕ) : Type 0 where
  pub first : ℕ
  pub second : ℕ
  pub first_is : place_for left row ≡ Some first
  pub second_is : place_for right row ≡ Some second
  pub below : second < count_for right
  pub number : pair ≡ first * count_for right + second

-- what is known of a pair is so in each row that it gives
abbrev pub Knows : Operator → Operand → Operand → Decided → Type 0
Knows op left right decided = (pair : ℕ) → IfSome (get nat_cmp decided.answers pair) (λ answer. (row : ℕ) → IsPair left right row pair → binary_value op (value_for left row) (value_for right row) ≡ val.Boolean answer)
