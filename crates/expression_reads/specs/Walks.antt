-- A walk over an expression with a list of what is left to look at, which finds the columns that it reads.
use Rattle.std.specs.Prelude.{◌≡◌, ◌⊎◌, ℕ, Bool, IsTrue, List, Contains, Some, map, slice_get}
use Rattle.std.specs.BTreeSet.{BTreeSet, contains}
use Rattle.std.specs.List.{AllByRecursion}
use Rattle.std.specs.Ordering.{nat_cmp}
use Rattle.ps_expr_eval.specs.Evaluations.{operands_in}
use Rattle.ps_frame.specs.Frames.{HasKinds, column_values, has_name}
use Rattle.ps_frame.specs.Parts.{reads_column}
use Rattle.ps_frame.specs.Series.{Series}
use Rattle.ps_frame.specs.Tables.{Fields, Frame, values_at}
use Rattle.ps_frame.specs.Trees.{tree_at}
use Rattle.ps_frame.specs.declared.expr.AExpr.{AExpr}
use Rattle.ps_frame.specs.declared.expr.AExpr.TheVariants as entry
use Rattle.ps_meaning.specs.Distinct.{places_in}
use Rattle.ps_meaning.specs.Schemas.{named_fields, names_of}
use Rattle.ps_meaning.specs.Steps.{Name}
use Rattle.pu_base.specs.declared.arena.Node.{Node}

-- an entry was looked at, or is left to be
abbrev pub IsMet : BTreeSet ℕ → List Node → Node → Type 0
IsMet seen left n = IsTrue (contains nat_cmp seen n.0) ⊎ Contains left n

-- what an entry reads is read by an expression
abbrev pub IsWithin : List AExpr → Node → Node → Type 0
IsWithin arena expr n = (name : Name) → IsTrue (reads_column name (tree_at arena n)) → IsTrue (reads_column name (tree_at arena expr))

-- each of the names passes a test
abbrev pub AllNamesPass : (Name → Bool) → Fields → Type 0
AllNamesPass p fields = AllByRecursion (λ f. IsTrue (p f.0)) fields

-- The walk met the expression, and of each entry that it has looked at it met what the entry takes, and has the field that the entry names. What is left and what was found are within the expression.
pub record Walks (arena : List AExpr) (all : Fields) (expr : Node) (seen : BTreeSet ℕ) (left : List Node) (fields : Fields) : Type 0 where
  pub start : IsMet seen left expr
  pub operands : (n : Node) → IsTrue (contains nat_cmp seen n.0) → AllByRecursion (IsMet seen left) (operands_in (slice_get arena n.0))
  pub within : AllByRecursion (IsWithin arena expr) left
  pub only : AllNamesPass (λ name. reads_column name (tree_at arena expr)) fields
  pub columns : (n : Node) (name : Name) → IsTrue (contains nat_cmp seen n.0) → slice_get arena n.0 ≡ Some (entry.Column name) → IsTrue (has_name name all) → IsTrue (has_name name fields)

-- fields are those of a table under their names, and columns are the columns of these names
pub record AreColumnsOf (all : Frame) (fields : Fields) (columns : List Series) : Type 0 where
  pub fields_are : named_fields (names_of fields) all.schema ≡ Some fields
  pub kinds_are : HasKinds fields columns
  pub values_are : column_values columns ≡ map (λ i. values_at i all.rows) (places_in (names_of fields) all.schema)
