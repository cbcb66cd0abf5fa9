-- What comparisons make of an order.
use Rattle.std.specs.declared.cmp.Ordering.{Ordering}
use Rattle.std.specs.Ordering.{is_eq, is_ge, is_gt, is_le, is_lt, is_ne}
use Rattle.ps_frame.specs.declared.expr.Operator.{Operator}
use Rattle.ps_frame.specs.declared.expr.Operator.TheVariants as op
use Rattle.ps_frame.specs.declared.value.Value.{Value}
use Rattle.ps_frame.specs.declared.value.Value.TheVariants as val

-- whether an order is as a comparison asks; null for another operator
abbrev pub order_value : Operator → Ordering → Value
order_value op.Eq order = val.Boolean (is_eq order)
order_value op.NotEq order = val.Boolean (is_ne order)
order_value op.Lt order = val.Boolean (is_lt order)
order_value op.LtEq order = val.Boolean (is_le order)
order_value op.Gt order = val.Boolean (is_gt order)
order_value op.GtEq order = val.Boolean (is_ge order)
order_value _ order = val.Null
