-- The JSON of an expression.
use Rattle.std.specs.Prelude.{◌≡◌, ◌<◌, ◌^◌, [], ◌∷◌, codes, IsTrue, FitsSigned, ⊤}
use Rattle.std.specs.Int.{w64}
use Rattle.serde_json.specs.Data.{Data}
use Rattle.pu_base.specs.declared.arena.Node.{Node}
use Rattle.ps_frame.specs.Lines.{what_name}
use Rattle.ps_frame.specs.declared.expr.AExpr.{AExpr}
use Rattle.ps_frame.specs.declared.expr.AExpr.TheVariants as expr
use Rattle.ps_frame.specs.declared.expr.IRAggExpr.{IRAggExpr}
use Rattle.ps_frame.specs.declared.expr.IRAggExpr.TheVariants as agg
use Rattle.ps_frame.specs.declared.expr.LiteralValue.{LiteralValue}
use Rattle.ps_frame.specs.declared.expr.LiteralValue.TheVariants as lit
use Rattle.ps_document.specs.Json.{count, list, list_of, text, truth, whole_number}
use Rattle.ps_document.specs.Words.{function_word, is_left_out_kind, kind_word, operator_word}

-- the number of an entry
abbrev pub entry_number : Node → Data
entry_number n = count n.0

abbrev pub literal_json : LiteralValue → Data
literal_json (lit.Null k) = list (text (codes "null") ∷ text (kind_word k) ∷ [])
literal_json (lit.Boolean b) = list (text (codes "bool") ∷ truth b ∷ [])
literal_json (lit.Int64 z) = list (text (codes "int") ∷ whole_number z ∷ [])
literal_json (lit.IdxSize n) = list (text (codes "idx") ∷ count n ∷ [])
literal_json (lit.String s) = list (text (codes "str") ∷ text s ∷ [])

abbrev pub aggregate_json : IRAggExpr → Data
aggregate_json (agg.Min n) = list (text (codes "min") ∷ entry_number n ∷ [])
aggregate_json (agg.Max n) = list (text (codes "max") ∷ entry_number n ∷ [])
aggregate_json (agg.First n) = list (text (codes "first") ∷ entry_number n ∷ [])
aggregate_json (agg.Last n) = list (text (codes "last") ∷ entry_number n ∷ [])
aggregate_json (agg.Sum n) = list (text (codes "sum") ∷ entry_number n ∷ [])
aggregate_json (agg.NUnique n) = list (text (codes "n_unique") ∷ entry_number n ∷ [])
aggregate_json (agg.Count n all) = list (text (codes "count") ∷ entry_number n ∷ truth all ∷ [])

abbrev pub expr_json : AExpr → Data
expr_json (expr.Column name) = list (text (codes "col") ∷ text name ∷ [])
expr_json (expr.Literal l) = literal_json l
expr_json (expr.BinaryExpr l o r) = list (text (operator_word o) ∷ entry_number l ∷ entry_number r ∷ [])
expr_json (expr.Cast e k strict) = list (text (codes "cast") ∷ entry_number e ∷ text (kind_word k) ∷ truth strict ∷ [])
expr_json (expr.Sort e descending nulls_last) = list (text (codes "sort") ∷ entry_number e ∷ truth descending ∷ truth nulls_last ∷ [])
expr_json (expr.SortBy e by descending nulls_last) =
    list (text (codes "sort_by") ∷ entry_number e ∷ list_of entry_number by ∷ list_of truth descending ∷ list_of truth nulls_last ∷ [])
expr_json (expr.Gather e i scalar) = list (text (codes "gather") ∷ entry_number e ∷ entry_number i ∷ truth scalar ∷ [])
expr_json (expr.Filter e by) = list (text (codes "filter") ∷ entry_number e ∷ entry_number by ∷ [])
expr_json (expr.Agg a) = aggregate_json a
expr_json (expr.Ternary p a b) = list (text (codes "ternary") ∷ entry_number p ∷ entry_number a ∷ entry_number b ∷ [])
expr_json (expr.Function e g) = list (text (function_word g) ∷ entry_number e ∷ [])
expr_json (expr.Slice e o l) = list (text (codes "slice") ∷ entry_number e ∷ entry_number o ∷ entry_number l ∷ [])
expr_json expr.Len = list (text (codes "len") ∷ [])
expr_json (expr.LeftOut w) = list (text (codes "left_out") ∷ text (what_name w) ∷ [])

-- a literal's number fits its width, and only kinds that are left out stand as such
abbrev pub CanStand : AExpr → Type 0
CanStand (expr.Literal (lit.Int64 z)) = FitsSigned w64 z
CanStand (expr.Literal (lit.IdxSize n)) = n < 2 ^ 32
CanStand (expr.LeftOut w) = IsTrue (is_left_out_kind w)
CanStand _ = ⊤

pub record IsExpr (e : AExpr) (d : Data) : Type 0 where
  pub json : d ≡ expr_json e
  pub stands : CanStand e
