-- The JSON of an expression and of a node begins with a word.
use Rattle.std.proofs.Common.{◌≡◌, ◌≢◌, ◌==◌, ℕ, false, List, [], ◌∷◌, length, drop, refl, ◌∙◌}
use Rattle.std.specs.Prelude.{map}
use Rattle.serde_json.specs.Data.{Data}
use Rattle.ps_frame.specs.Tables.{Frame}
use Rattle.ps_frame.specs.declared.expr.AExpr.{AExpr}
use Rattle.ps_frame.specs.declared.expr.AExpr.TheVariants as expr
use Rattle.ps_frame.specs.declared.expr.IRAggExpr.TheVariants as agg
use Rattle.ps_frame.specs.declared.expr.LiteralValue.TheVariants as lit
use Rattle.ps_meaning.specs.declared.options.FunctionIR.TheVariants as call
use Rattle.ps_plan.specs.declared.ir.IR.{IR}
use Rattle.ps_plan.specs.declared.ir.IR.TheVariants as entry
use Rattle.ps_document.proofs.Told.{item_in, items_in, text_in}
use Rattle.ps_document.specs.Expressions.{IsExpr, expr_json}
use Rattle.ps_document.specs.Json.{list, text}
use Rattle.ps_document.specs.Nodes.{IsNode, node_json}

-- a list whose first element is a text
record BeginsWithWord (d : Data) : Type 0 where
  word : List ℕ
  rest : List Data
  is : d ≡ list (text word ∷ rest)

begins : (d : Data) → d ≡ list (text (text_in (item_in 0 d)) ∷ drop 1 (items_in d)) → BeginsWithWord d
begins d is = record { word = text_in (item_in 0 d); rest = drop 1 (items_in d); is = is }

expr-begins : (e : AExpr) → BeginsWithWord (expr_json e)
expr-begins (expr.Literal (lit.Null k)) = begins _ refl
expr-begins (expr.Literal (lit.Boolean b)) = begins _ refl
expr-begins (expr.Literal (lit.Int64 z)) = begins _ refl
expr-begins (expr.Literal (lit.IdxSize n)) = begins _ refl
expr-begins (expr.Literal (lit.String s)) = begins _ refl
expr-begins (expr.Agg (agg.Min n)) = begins _ refl
expr-begins (expr.Agg (agg.Max n)) = begins _ refl
expr-begins (expr.Agg (agg.First n)) = begins _ refl
expr-begins (expr.Agg (agg.Last n)) = begins _ refl
expr-begins (expr.Agg (agg.Sum n)) = begins _ refl
expr-begins (expr.Agg (agg.NUnique n)) = begins _ refl
expr-begins (expr.Agg (agg.Count n all)) = begins _ refl
expr-begins (expr.Column name) = begins _ refl
expr-begins (expr.BinaryExpr l o r) = begins _ refl
expr-begins (expr.Cast e k strict) = begins _ refl
expr-begins (expr.Sort e d n) = begins _ refl
expr-begins (expr.SortBy e by d n) = begins _ refl
expr-begins (expr.Gather e i s) = begins _ refl
expr-begins (expr.Filter e by) = begins _ refl
expr-begins (expr.Ternary p a b) = begins _ refl
expr-begins (expr.Function e g) = begins _ refl
expr-begins (expr.Slice e o l) = begins _ refl
expr-begins expr.Len = begins _ refl
expr-begins (expr.LeftOut w) = begins _ refl

node-begins : (table : ℕ) (e : IR) → BeginsWithWord (node_json table e)
node-begins table (entry.MapFunction i (call.RowIndex name offset)) = begins _ refl
node-begins table (entry.MapFunction i (call.User n)) = begins _ refl
node-begins table (entry.DataFrameScan df columns) = begins _ refl
node-begins table (entry.SimpleProjection i columns) = begins _ refl
node-begins table (entry.Select i es) = begins _ refl
node-begins table (entry.HStack i es) = begins _ refl
node-begins table (entry.Filter i predicate) = begins _ refl
node-begins table (entry.Slice i offset len) = begins _ refl
node-begins table (entry.Sink i payload) = begins _ refl
node-begins table (entry.Sort i by cut options) = begins _ refl
node-begins table (entry.Union inputs options) = begins _ refl
node-begins table (entry.HConcat inputs) = begins _ refl
node-begins table (entry.Cache i id hits) = begins _ refl
node-begins table (entry.GroupBy i keys aggs maintain options) = begins _ refl
node-begins table (entry.Join l r left_on right_on args) = begins _ refl
node-begins table (entry.Distinct i o) = begins _ refl
node-begins table (entry.LeftOut w) = begins _ refl

-- what doesn't begin so is the JSON of none
pub no-expression : (d : Data) → ((word : List ℕ) (ds : List Data) → d ≢ list (text word ∷ ds)) → (e : AExpr) → IsExpr e d → ⊥
no-expression d none e is = let b = expr-begins e in none b.word b.rest (is.json ∙ b.is)

pub no-node : (tables : List Frame) (d : Data) → ((word : List ℕ) (ds : List Data) → d ≢ list (text word ∷ ds)) → (e : IR) → IsNode tables e d → ⊥
no-node tables d none e is = let b = node-begins is.table e in none b.word b.rest (is.json ∙ b.is)

-- a word with something behind it isn't alone
pub not-alone : {A : Type 0} (f : A → Data) (w : Data) (xs : List A) → false ≡ (length xs == 0) → list (w ∷ map f xs) ≡ list (w ∷ []) → ⊥
not-alone f w [] e is = cc
not-alone f w (x ∷ xs) e is = cc
