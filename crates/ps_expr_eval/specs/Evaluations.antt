-- What is computed of expressions.
use Rattle.std.specs.Prelude.{◌≡◌, ⊤, ℕ, List, [], ◌∷◌, IsSome, Option, Some, None}
use Rattle.ps_expr_eval.specs.Held.{Keeps}
use Rattle.ps_expr_eval.specs.Wholes.{aggregated_of}
use Rattle.ps_expr_eval.specs.declared.computed.ComputedColumn.{ComputedColumn}
use Rattle.ps_frame.specs.Eval.{eval}
use Rattle.ps_frame.specs.Tables.{Fields, Frame, whole}
use Rattle.ps_frame.specs.Trees.{IsComplete, Tree, Trees}
use Rattle.ps_frame.specs.Typing.{kind_over}
use Rattle.ps_frame.specs.declared.expr.AExpr.{AExpr}
use Rattle.ps_frame.specs.declared.expr.AExpr.TheVariants as entry
use Rattle.pu_base.specs.declared.arena.Node.{Node}

-- a column has the kind of an expression over a table, and is what is held of its column
pub record Evaluates (table : Frame) (t : Tree) (p : ComputedColumn) : Type 0 where
  pub keeps : (node : ℕ) → Keeps p (eval node (whole table) t)
  pub kind : kind_over table.schema t ≡ Some p.dtype

-- the same of several expressions
abbrev pub EvaluateAll : Frame → Trees → List ComputedColumn → Type 0
EvaluateAll table Trees.no_trees [] = ⊤
EvaluateAll table (Trees.tree t ts) (p ∷ ps) = Evaluates table t p × EvaluateAll table ts ps
EvaluateAll table _ _ = ⊥

-- the entries that an entry takes, in order
abbrev pub operands_of : AExpr → List Node
operands_of (entry.Column name) = []
operands_of (entry.Literal l) = []
operands_of (entry.BinaryExpr l o r) = l ∷ r ∷ []
operands_of (entry.Cast e k strict) = e ∷ []
operands_of (entry.Sort e d n) = e ∷ []
operands_of (entry.SortBy e by d n) = e ∷ by
operands_of (entry.Gather e i s) = e ∷ i ∷ []
operands_of (entry.Filter e by) = e ∷ by ∷ []
operands_of (entry.Agg a) = aggregated_of a ∷ []
operands_of (entry.Ternary p a b) = p ∷ a ∷ b ∷ []
operands_of (entry.Function e g) = e ∷ []
operands_of (entry.Slice e o l) = e ∷ o ∷ l ∷ []
operands_of entry.Len = []
operands_of (entry.LeftOut w) = []

-- the same of the entry of a number
abbrev pub operands_in : Option AExpr → List Node
operands_in None = []
operands_in (Some e) = operands_of e

-- nothing is missing in an expression, and it has a kind over a schema
pub record IsTyped (schema : Fields) (t : Tree) : Type 0 where
  pub complete : IsComplete t
  pub kind : IsSome (kind_over schema t)

-- the same of several expressions
abbrev pub AreTyped : Fields → (Node → Tree) → List Node → Type 0
AreTyped schema f [] = ⊤
AreTyped schema f (n ∷ ns) = IsTyped schema (f n) × AreTyped schema f ns
