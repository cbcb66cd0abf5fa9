-- The words that stand in a document for kinds, operators, functions and options.
use Rattle.std.specs.Prelude.{ℕ, Bool, true, false, List, codes}
use Rattle.ps_frame.specs.declared.expr.FunctionExpr.{FunctionExpr}
use Rattle.ps_frame.specs.declared.expr.FunctionExpr.TheVariants as fun
use Rattle.ps_frame.specs.declared.expr.Operator.{Operator}
use Rattle.ps_frame.specs.declared.expr.Operator.TheVariants as op
use Rattle.ps_frame.specs.declared.expr.What.{What}
use Rattle.ps_frame.specs.declared.expr.What.TheVariants as what
use Rattle.ps_frame.specs.declared.value.DataType.{DataType}
use Rattle.ps_frame.specs.declared.value.DataType.TheVariants as kind
use Rattle.ps_meaning.specs.declared.options.JoinType.{JoinType}
use Rattle.ps_meaning.specs.declared.options.JoinType.TheVariants as how
use Rattle.ps_meaning.specs.declared.options.JoinValidation.{JoinValidation}
use Rattle.ps_meaning.specs.declared.options.JoinValidation.TheVariants as validation
use Rattle.ps_meaning.specs.declared.options.SinkType.{SinkType}
use Rattle.ps_meaning.specs.declared.options.SinkType.TheVariants as sink
use Rattle.ps_meaning.specs.declared.options.UniqueKeepStrategy.{UniqueKeepStrategy}
use Rattle.ps_meaning.specs.declared.options.UniqueKeepStrategy.TheVariants as keep

abbrev pub kind_word : DataType → List ℕ
kind_word kind.Boolean = codes "bool"
kind_word kind.Int64 = codes "int"
kind_word kind.IdxSize = codes "idx"
kind_word kind.String = codes "str"

abbrev pub operator_word : Operator → List ℕ
operator_word op.Eq = codes "eq"
operator_word op.NotEq = codes "ne"
operator_word op.Lt = codes "lt"
operator_word op.LtEq = codes "le"
operator_word op.Gt = codes "gt"
operator_word op.GtEq = codes "ge"
operator_word op.Plus = codes "add"
operator_word op.Minus = codes "sub"
operator_word op.Multiply = codes "mul"
operator_word op.FloorDivide = codes "floordiv"
operator_word op.Modulus = codes "mod"
operator_word op.And = codes "and"
operator_word op.Or = codes "or"

abbrev pub function_word : FunctionExpr → List ℕ
function_word fun.Not = codes "not"
function_word fun.IsNull = codes "is_null"
function_word fun.IsNotNull = codes "is_not_null"
function_word fun.Reverse = codes "reverse"

abbrev pub join_word : JoinType → List ℕ
join_word how.Inner = codes "inner"
join_word how.Left = codes "left"
join_word how.Right = codes "right"
join_word how.Full = codes "full"
join_word how.Semi = codes "semi"
join_word how.Anti = codes "anti"
join_word how.Cross = codes "cross"

abbrev pub validation_word : JoinValidation → List ℕ
validation_word validation.ManyToMany = codes "m:m"
validation_word validation.ManyToOne = codes "m:1"
validation_word validation.OneToMany = codes "1:m"
validation_word validation.OneToOne = codes "1:1"

abbrev pub keep_word : UniqueKeepStrategy → List ℕ
keep_word keep.First = codes "first"
keep_word keep.Last = codes "last"
keep_word keep.Any = codes "any"
keep_word keep.None = codes "none"

abbrev pub sink_word : SinkType → List ℕ
sink_word sink.Memory = codes "sink"
sink_word sink.File = codes "file_sink"

-- whether this is a kind that is left out; the other ones are refusals by a plan's structure
abbrev pub is_left_out_kind : What → Bool
is_left_out_kind what.Validation = false
is_left_out_kind what.NoColumns = false
is_left_out_kind what.LiteralAggregate = false
is_left_out_kind what.RootNotSink = false
is_left_out_kind what.FileSink = false
is_left_out_kind _ = true
