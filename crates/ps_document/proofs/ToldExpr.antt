-- The expression that a JSON value tells.
use Rattle.std.proofs.Common.{◌≡◌, ℕ, List, [], ◌∷◌, refl, ap, ◌∙◌}
use Rattle.std.specs.Prelude.{codes}
use Rattle.serde_json.specs.Data.{Data}
use Rattle.pu_base.specs.declared.arena.Node.{Node}
use Rattle.ps_frame.specs.Lines.{what_name}
use Rattle.ps_frame.specs.declared.expr.AExpr.{AExpr}
use Rattle.ps_frame.specs.declared.expr.AExpr.TheVariants as expr
use Rattle.ps_frame.specs.declared.expr.FunctionExpr.{FunctionExpr}
use Rattle.ps_frame.specs.declared.expr.FunctionExpr.TheVariants as fun
use Rattle.ps_frame.specs.declared.expr.IRAggExpr.{IRAggExpr}
use Rattle.ps_frame.specs.declared.expr.IRAggExpr.TheVariants as agg
use Rattle.ps_frame.specs.declared.expr.LiteralValue.{LiteralValue}
use Rattle.ps_frame.specs.declared.expr.LiteralValue.TheVariants as lit
use Rattle.ps_frame.specs.declared.expr.Operator.{Operator}
use Rattle.ps_frame.specs.declared.expr.Operator.TheVariants as op
use Rattle.ps_frame.specs.declared.expr.What.{What}
use Rattle.ps_frame.specs.declared.expr.What.TheVariants as what
use Rattle.ps_document.proofs.Told.{entry_in, item_in, kind-told, kind_in, list-told, list_in, look_up, number_in, text_in, truth_in, whole_number-told, whole_number_in}
use Rattle.ps_document.specs.Expressions.{IsExpr, aggregate_json, entry_number, expr_json, literal_json}
use Rattle.ps_document.specs.Json.{text, truth}

abbrev pub what_in : Data → What
what_in d =
    look_up (text_in d)
    (
    (codes "Validation", what.Validation) ∷ (codes "NoColumns", what.NoColumns)
    ∷ (codes "LiteralAggregate", what.LiteralAggregate) ∷ (codes "RootNotSink", what.RootNotSink) ∷ (codes "FileSink", what.FileSink)
    ∷ (codes "Alias", what.Alias) ∷ (codes "Explode", what.Explode) ∷ (codes "Implode", what.Implode)
    ∷ (codes "AggGroups", what.AggGroups) ∷ (codes "Window", what.Window) ∷ (codes "AnonymousFunction", what.AnonymousFunction)
    ∷ (codes "SeriesLiteral", what.SeriesLiteral) ∷ (codes "FloatLiteral", what.FloatLiteral) ∷ (codes "Mean", what.Mean)
    ∷ (codes "Var", what.Var) ∷ (codes "Std", what.Std) ∷ (codes "Median", what.Median) ∷ (codes "Quantile", what.Quantile)
    ∷ (codes "TrueDivide", what.TrueDivide) ∷ (codes "Scan", what.Scan) ∷ (codes "PythonScan", what.PythonScan)
    ∷ (codes "ExtContext", what.ExtContext) ∷ (codes "Invalid", what.Invalid) ∷ (codes "MergeSorted", what.MergeSorted)
    ∷ (codes "OtherFunction", what.OtherFunction) ∷ (codes "AsOfJoin", what.AsOfJoin) ∷ (codes "InequalityJoin", what.InequalityJoin)
    ∷ (codes "GroupByApply", what.GroupByApply) ∷ (codes "DynamicGroupBy", what.DynamicGroupBy) ∷ []
    )
    what.RollingGroupBy

pub what-told : (w : What) → what_in (text (what_name w)) ≡ w
what-told what.Validation = refl
what-told what.NoColumns = refl
what-told what.LiteralAggregate = refl
what-told what.RootNotSink = refl
what-told what.FileSink = refl
what-told what.Alias = refl
what-told what.Explode = refl
what-told what.Implode = refl
what-told what.AggGroups = refl
what-told what.Window = refl
what-told what.AnonymousFunction = refl
what-told what.SeriesLiteral = refl
what-told what.FloatLiteral = refl
what-told what.Mean = refl
what-told what.Var = refl
what-told what.Std = refl
what-told what.Median = refl
what-told what.Quantile = refl
what-told what.TrueDivide = refl
what-told what.Scan = refl
what-told what.PythonScan = refl
what-told what.ExtContext = refl
what-told what.Invalid = refl
what-told what.MergeSorted = refl
what-told what.OtherFunction = refl
what-told what.AsOfJoin = refl
what-told what.InequalityJoin = refl
what-told what.GroupByApply = refl
what-told what.DynamicGroupBy = refl
what-told what.RollingGroupBy = refl

-- the expression of a word and what follows it
abbrev expr_of : List ℕ → Data → Data → Data → Data → AExpr
expr_of w a b c d =
    look_up w
    (
    (codes "col", expr.Column (text_in a)) ∷ (codes "null", expr.Literal (lit.Null (kind_in a))) ∷ (codes "bool", expr.Literal (lit.Boolean (truth_in a)))
    ∷ (codes "int", expr.Literal (lit.Int64 (whole_number_in a))) ∷ (codes "idx", expr.Literal (lit.IdxSize (number_in a))) ∷ (codes "str", expr.Literal (lit.String (text_in a)))
    ∷ (codes "eq", expr.BinaryExpr (entry_in a) op.Eq (entry_in b)) ∷ (codes "ne", expr.BinaryExpr (entry_in a) op.NotEq (entry_in b))
    ∷ (codes "lt", expr.BinaryExpr (entry_in a) op.Lt (entry_in b)) ∷ (codes "le", expr.BinaryExpr (entry_in a) op.LtEq (entry_in b))
    ∷ (codes "gt", expr.BinaryExpr (entry_in a) op.Gt (entry_in b)) ∷ (codes "ge", expr.BinaryExpr (entry_in a) op.GtEq (entry_in b))
    ∷ (codes "add", expr.BinaryExpr (entry_in a) op.Plus (entry_in b)) ∷ (codes "sub", expr.BinaryExpr (entry_in a) op.Minus (entry_in b))
    ∷ (codes "mul", expr.BinaryExpr (entry_in a) op.Multiply (entry_in b)) ∷ (codes "floordiv", expr.BinaryExpr (entry_in a) op.FloorDivide (entry_in b))
    ∷ (codes "mod", expr.BinaryExpr (entry_in a) op.Modulus (entry_in b)) ∷ (codes "and", expr.BinaryExpr (entry_in a) op.And (entry_in b))
    ∷ (codes "or", expr.BinaryExpr (entry_in a) op.Or (entry_in b)) ∷ (codes "cast", expr.Cast (entry_in a) (kind_in b) (truth_in c))
    ∷ (codes "sort", expr.Sort (entry_in a) (truth_in b) (truth_in c)) ∷ (codes "sort_by", expr.SortBy (entry_in a) (list_in entry_in b) (list_in truth_in c) (list_in truth_in d))
    ∷ (codes "gather", expr.Gather (entry_in a) (entry_in b) (truth_in c)) ∷ (codes "filter", expr.Filter (entry_in a) (entry_in b))
    ∷ (codes "min", expr.Agg (agg.Min (entry_in a))) ∷ (codes "max", expr.Agg (agg.Max (entry_in a))) ∷ (codes "first", expr.Agg (agg.First (entry_in a)))
    ∷ (codes "last", expr.Agg (agg.Last (entry_in a))) ∷ (codes "sum", expr.Agg (agg.Sum (entry_in a))) ∷ (codes "n_unique", expr.Agg (agg.NUnique (entry_in a)))
    ∷ (codes "count", expr.Agg (agg.Count (entry_in a) (truth_in b))) ∷ (codes "ternary", expr.Ternary (entry_in a) (entry_in b) (entry_in c))
    ∷ (codes "not", expr.Function (entry_in a) fun.Not) ∷ (codes "is_null", expr.Function (entry_in a) fun.IsNull)
    ∷ (codes "is_not_null", expr.Function (entry_in a) fun.IsNotNull) ∷ (codes "reverse", expr.Function (entry_in a) fun.Reverse)
    ∷ (codes "slice", expr.Slice (entry_in a) (entry_in b) (entry_in c)) ∷ (codes "len", expr.Len) ∷ []
    )
    (expr.LeftOut (what_in a))

abbrev pub expr_in : Data → AExpr
expr_in d = expr_of (text_in (item_in 0 d)) (item_in 1 d) (item_in 2 d) (item_in 3 d) (item_in 4 d)

literal-told : (l : LiteralValue) → expr_in (literal_json l) ≡ expr.Literal l
literal-told (lit.Null k) = ap (λ j. expr.Literal (lit.Null j)) (kind-told k)
literal-told (lit.Boolean b) = refl
literal-told (lit.Int64 z) = ap (λ y. expr.Literal (lit.Int64 y)) (whole_number-told z)
literal-told (lit.IdxSize n) = refl
literal-told (lit.String s) = refl

aggregate-told : (a : IRAggExpr) → expr_in (aggregate_json a) ≡ expr.Agg a
aggregate-told (agg.Min n) = refl
aggregate-told (agg.Max n) = refl
aggregate-told (agg.First n) = refl
aggregate-told (agg.Last n) = refl
aggregate-told (agg.Sum n) = refl
aggregate-told (agg.NUnique n) = refl
aggregate-told (agg.Count n all) = refl

binary-told : (l : Node) (o : Operator) (r : Node) → expr_in (expr_json (expr.BinaryExpr l o r)) ≡ expr.BinaryExpr l o r
binary-told l op.Eq r = refl
binary-told l op.NotEq r = refl
binary-told l op.Lt r = refl
binary-told l op.LtEq r = refl
binary-told l op.Gt r = refl
binary-told l op.GtEq r = refl
binary-told l op.Plus r = refl
binary-told l op.Minus r = refl
binary-told l op.Multiply r = refl
binary-told l op.FloorDivide r = refl
binary-told l op.Modulus r = refl
binary-told l op.And r = refl
binary-told l op.Or r = refl

function-told : (e : Node) (g : FunctionExpr) → expr_in (expr_json (expr.Function e g)) ≡ expr.Function e g
function-told e fun.Not = refl
function-told e fun.IsNull = refl
function-told e fun.IsNotNull = refl
function-told e fun.Reverse = refl

told : (e : AExpr) → expr_in (expr_json e) ≡ e
told (expr.Column name) = refl
told (expr.Literal l) = literal-told l
told (expr.BinaryExpr l o r) = binary-told l o r
told (expr.Cast e k strict) = ap (λ j. expr.Cast e j strict) (kind-told k)
told (expr.Sort e descending nulls_last) = refl
told (expr.SortBy e by descending nulls_last) =
    λ i. expr.SortBy e (list-told entry_number entry_in (λ n. refl) by i) (list-told truth truth_in (λ b. refl) descending i) (list-told truth truth_in (λ b. refl) nulls_last i)
told (expr.Gather e n scalar) = refl
told (expr.Filter e by) = refl
told (expr.Agg a) = aggregate-told a
told (expr.Ternary p a b) = refl
told (expr.Function e g) = function-told e g
told (expr.Slice e o l) = refl
told expr.Len = refl
told (expr.LeftOut w) = ap expr.LeftOut (what-told w)

pub expr-told : (e : AExpr) (d : Data) → IsExpr e d → expr_in d ≡ e
expr-told e d is = ap expr_in is.json ∙ told e
