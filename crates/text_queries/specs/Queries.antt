-- Queries of the pipeline language, as trees over texts, numbers and lists.
use Rattle.std.specs.Prelude.{ℕ, ℤ, suc, max, Bool, List, [], ◌∷◌}
use Rattle.ps_frame.specs.declared.expr.Operator.{Operator}
use Rattle.ps_frame.specs.declared.value.DataType.{DataType}
use Rattle.ps_meaning.specs.declared.options.JoinType.{JoinType}
use Rattle.text_queries.specs.declared.words.TextFn.{TextFn}

-- an expression: the column of a name, a value, a null of a kind, a function of an expression, the number of rows, or an operator with its two operands
pub data Expr : Type 0 where
  Name : List ℕ → Expr
  Int : ℤ → Expr
  Text : List ℕ → Expr
  Truth : Bool → Expr
  Null : DataType → Expr
  Call : TextFn → Expr → Expr
  Len : Expr
  Binary : Operator → Expr → Expr → Expr

-- an expression with the name of its column
pub record Item : Type 0 where
  pub name : List ℕ
  pub expr : Expr

-- an expression to sort by, and whether the greatest comes first
pub record Key : Type 0 where
  pub expr : Expr
  pub desc : Bool

pub data Stage : Type 0 where
  Filter : Expr → Stage
  Select : List Item → Stage
  With : List Item → Stage
  Group : List Item → List Item → Stage
  Sort : List Key → Stage
  Slice : ℤ → ℕ → Stage
  Distinct : Stage
  Join : JoinType → List ℕ → List (List ℕ) → Stage

-- a table, by its name, and what is done with it, stage after stage
pub record Query : Type 0 where
  pub source : List ℕ
  pub stages : List Stage

-- how many expressions stand within one another; parentheses add nothing
abbrev pub expr_depth : Expr → ℕ
expr_depth (Call function operand) = suc (expr_depth operand)
expr_depth (Binary op left right) = suc (max (expr_depth left) (expr_depth right))
expr_depth _ = 1

-- the greatest of the numbers that f gives, and 0 where there is none
abbrev pub greatest : {X : Type 0} → (X → ℕ) → List X → ℕ
greatest f [] = 0
greatest f (x ∷ xs) = max (f x) (greatest f xs)

abbrev pub items_depth : List Item → ℕ
items_depth items = greatest (λ item. expr_depth item.expr) items

abbrev pub stage_depth : Stage → ℕ
stage_depth (Filter predicate) = expr_depth predicate
stage_depth (Select items) = items_depth items
stage_depth (With items) = items_depth items
stage_depth (Group keys aggs) = max (items_depth keys) (items_depth aggs)
stage_depth (Sort keys) = greatest (λ key. expr_depth key.expr) keys
stage_depth (Slice offset length) = 0
stage_depth Distinct = 0
stage_depth (Join how table on) = 0

-- the depth of the deepest expression, and 0 for a query without expressions
abbrev pub depth : Query → ℕ
depth query = greatest stage_depth query.stages
