-- Expressions are evaluated with a list of what is left to do, and the columns that wait for their reader.
use Rattle.std.specs.Prelude.{◌≡◌, ⊤, ℕ, ◌+◌, ◌*◌, List, [], ◌∷◌, ◌++◌, slice_get, IfSome}
use Rattle.std.specs.BTreeMap.{get}
use Rattle.std.specs.Ordering.{nat_cmp}
use Rattle.ps_expr_eval.specs.Evaluations.{EvaluateAll, Evaluates, IsTyped, operands_in}
use Rattle.ps_expr_eval.specs.declared.computed.ComputedColumn.{ComputedColumn}
use Rattle.ps_expr_eval.specs.declared.evaluate.Work.{Work}
use Rattle.ps_expr_eval.specs.declared.evaluate.Work.TheVariants.{Visit, Compute}
use Rattle.ps_expr_eval.specs.declared.shared.SharedColumns.{SharedColumns}
use Rattle.ps_frame.specs.Tables.{Fields, Frame}
use Rattle.ps_frame.specs.Trees.{Tree, tree_at, tree_size, trees_of}
use Rattle.ps_frame.specs.declared.expr.AExpr.{AExpr}
use Rattle.pu_base.specs.declared.arena.Node.{Node}

-- each column that is kept is that of its entry over the table
abbrev pub Remembers : Frame → List AExpr → SharedColumns → Type 0
Remembers table arena shared = (n : ℕ) → IfSome (get nat_cmp shared.columns n) (Evaluates table (tree_at arena (record { 0 = n })))

-- the entries that the entry of a number takes
abbrev pub operands_at : List AExpr → Node → List Node
operands_at arena n = operands_in (slice_get arena n.0)

-- where columns of these entries wait, what is left to do leaves those of some entries, in this order
abbrev pub Leaves : (Node → List Node) → List Node → List Work → List Node → Type 0
Leaves takes some [] waiting = waiting ≡ some
Leaves takes some (Visit n ∷ left) waiting = Leaves takes some left (waiting ++ n ∷ [])
Leaves takes some (Compute n ∷ left) waiting = (below : List Node) × (waiting ≡ below ++ takes n) × Leaves takes some left (below ++ n ∷ [])

-- the entry that is to be visited or computed
abbrev pub entry_of : Work → Node
entry_of (Visit n) = n
entry_of (Compute n) = n

-- each entry that is left has a kind over the table
abbrev pub AreTypedWork : Fields → (Node → Tree) → List Work → Type 0
AreTypedWork schema f [] = ⊤
AreTypedWork schema f (w ∷ ws) = IsTyped schema (f (entry_of w)) × AreTypedWork schema f ws

-- what is left to do, that which comes next first, leaves the columns of some expressions over a table
pub record Proceeds (table : Frame) (arena : List AExpr) (exprs : List Node) (left : List Work) (columns : List ComputedColumn) (shared : SharedColumns) : Type 0 where
  pub waiting : List Node
  pub leaves : Leaves (operands_at arena) exprs left waiting
  pub evaluated : EvaluateAll table (trees_of (tree_at arena) waiting) columns
  pub typed : AreTypedWork table.schema (tree_at arena) left
  pub remembered : Remembers table arena shared

-- a bound on the steps that are left
abbrev pub steps_left : (Node → Tree) → List Work → ℕ
steps_left f [] = 0
steps_left f (Visit n ∷ left) = 2 * tree_size (f n) + steps_left f left
steps_left f (Compute n ∷ left) = 1 + steps_left f left
