-- Elementwise expressions by what stands at their leaves: columns under names, and literals.
use Rattle.std.specs.Prelude.{◌≡◌, ◌⊎◌, ◌<◌, ◌≤◌, ℕ, List, [], ◌∷◌, ◌++◌, map, length, flat_map, true, false, not, ◌||◌, IsTrue, if◌then◌else◌, ⊤}
use Rattle.std.specs.List.{AllByRecursion, list_any}
use Rattle.ps_frame.specs.Causes.{Cell, Column, value, is_ended, whole_column}
use Rattle.ps_frame.specs.Eval.{at, cell_of_row, cellwise, eval, function_column, literal_value}
use Rattle.ps_frame.specs.Operators.{binary_value, cast_cell, cast_value, choice_of, not_value}
use Rattle.ps_frame.specs.Trees.{Tree, Trees}
use Rattle.ps_frame.specs.Typing.{is_elementwise}
use Rattle.ps_frame.specs.Values.{is_null}
use Rattle.ps_frame.specs.Zip.{Extent, below, breaks_shape, cell_in_row, extent_of, extents, zip_length, zipped}
use Rattle.ps_frame.specs.Tables.{Table, field_kind, table_column}
use Rattle.ps_frame.specs.declared.expr.FunctionExpr.{FunctionExpr}
use Rattle.ps_frame.specs.declared.expr.FunctionExpr.TheVariants as fun
use Rattle.ps_frame.specs.declared.value.Value.TheVariants as val
use Rattle.ps_meaning.specs.Steps.{Name, Named}
use Rattle.ps_shares.specs.Kept.{IsPartOf}
use Rattle.std.specs.Str.{bytes_eq}

-- the column of each name
abbrev pub Naming : Type 0
Naming = Name → Column

-- the column of an elementwise expression over columns under names
abbrev pub eval_with : ℕ → Naming → Tree → Column
eval_with node env (Tree.column name) = env name
eval_with node env (Tree.literal l) = whole_column (literal_value l ∷ [])
eval_with node env (Tree.binary o l r) = cellwise node (λ row. value (binary_value o (at 0 row) (at 1 row))) (eval_with node env l ∷ eval_with node env r ∷ [])
eval_with node env (Tree.cast k strict e) = cellwise node (λ row. cast_cell node strict (cast_value k (at 0 row))) (eval_with node env e ∷ [])
eval_with node env (Tree.ternary p a b) =
    cellwise node (λ row. value (choice_of (at 0 row) (at 1 row) (at 2 row))) (eval_with node env p ∷ eval_with node env a ∷ eval_with node env b ∷ [])
eval_with node env (Tree.function g e) = function_column node g (eval_with node env e)
eval_with node env _ = whole_column []

-- what it reads, in order
abbrev pub leaves : Naming → Tree → List Column
leaves env (Tree.column name) = env name ∷ []
leaves env (Tree.literal l) = whole_column (literal_value l ∷ []) ∷ []
leaves env (Tree.binary o l r) = leaves env l ++ (leaves env r ++ [])
leaves env (Tree.cast k strict e) = leaves env e ++ []
leaves env (Tree.ternary p a b) = leaves env p ++ (leaves env a ++ (leaves env b ++ []))
leaves env (Tree.function g e) = leaves env e ++ []
leaves env _ = []

abbrev pub function_cell : FunctionExpr → Cell → Cell
function_cell fun.Not c = cell_of_row (λ row. value (not_value (at 0 row))) (c ∷ [])
function_cell fun.IsNull c = cell_of_row (λ row. value (val.Boolean (is_null (at 0 row)))) (c ∷ [])
function_cell fun.IsNotNull c = cell_of_row (λ row. value (val.Boolean (not (is_null (at 0 row))))) (c ∷ [])
function_cell fun.Reverse c = c

-- the cell of an elementwise expression in a row, from the cells that its leaves have there
abbrev pub cell_at : ℕ → Naming → Tree → ℕ → Cell
cell_at node env (Tree.column name) i = cell_in_row false i (env name)
cell_at node env (Tree.literal l) i = value (literal_value l)
cell_at node env (Tree.binary o l r) i = cell_of_row (λ row. value (binary_value o (at 0 row) (at 1 row))) (cell_at node env l i ∷ cell_at node env r i ∷ [])
cell_at node env (Tree.cast k strict e) i = cell_of_row (λ row. cast_cell node strict (cast_value k (at 0 row))) (cell_at node env e i ∷ [])
cell_at node env (Tree.ternary p a b) i = cell_of_row (λ row. value (choice_of (at 0 row) (at 1 row) (at 2 row))) (cell_at node env p i ∷ cell_at node env a i ∷ cell_at node env b i ∷ [])
cell_at node env (Tree.function g e) i = function_cell g (cell_at node env e i)
cell_at node env _ i = value val.Null

-- what a zip of columns is as an input of another one
abbrev pub extent_as_zip : List Column → Extent
extent_as_zip cs = record { ended = list_any is_ended cs || breaks_shape false (extents cs); len = zip_length false (extents cs) }

-- As many cells as a zip of the leaves has rows, each made of the leaves' cells of its row.
pub record GoesByLeaves (node : ℕ) (env : Naming) (e : Tree) : Type 0 where
  pub cells : (eval_with node env e).cells ≡ map (cell_at node env e) (below (zip_length false (extents (leaves env e))))
  pub ended : extent_of (eval_with node env e) ≡ extent_as_zip (leaves env e)

-- Elementwise expressions go by their leaves: nested operators are one zip of all that stands below them.
abbrev pub GoByLeaves : Type 0
GoByLeaves = (node : ℕ) (env : Naming) (e : Tree) → IsTrue (is_elementwise e) → GoesByLeaves node env e

-- what a fresh name stands for, and any other name for itself
abbrev pub stands_for : List Named → Name → Tree
stands_for [] n = Tree.column n
stands_for (m ∷ ms) n = if bytes_eq m.0 n then m.1 else stands_for ms n

-- an elementwise expression with each fresh name in it replaced by what it stands for
abbrev pub put_back : List Named → Tree → Tree
put_back ms (Tree.column name) = stands_for ms name
put_back ms (Tree.literal l) = Tree.literal l
put_back ms (Tree.binary o l r) = Tree.binary o (put_back ms l) (put_back ms r)
put_back ms (Tree.cast k strict e) = Tree.cast k strict (put_back ms e)
put_back ms (Tree.ternary p a b) = Tree.ternary (put_back ms p) (put_back ms a) (put_back ms b)
put_back ms (Tree.function g e) = Tree.function g (put_back ms e)
put_back ms e = e

-- With what fresh names stand for put back, an elementwise expression has the column that it has over the columns of what they stand for.
abbrev pub PutsBack : Type 0
PutsBack = (node : ℕ) (ms : List Named) (t : Table) (e : Tree) → IsTrue (is_elementwise e) → eval node t (put_back ms e) ≡ eval_with node (λ n. eval node t (stands_for ms n)) e

-- Over a table it is what it is over the table's columns.
abbrev pub ReadsColumns : Type 0
ReadsColumns = (node : ℕ) (t : Table) (e : Tree) → IsTrue (is_elementwise e) → eval node t e ≡ eval_with node (λ n. table_column n t) e

-- this holds of each name that an elementwise expression reads
abbrev pub AtLeaves : (Name → Type 0) → Tree → Type 0
AtLeaves P (Tree.column name) = P name
AtLeaves P (Tree.binary o l r) = AtLeaves P l × AtLeaves P r
AtLeaves P (Tree.cast k strict e) = AtLeaves P e
AtLeaves P (Tree.ternary p a b) = AtLeaves P p × AtLeaves P a × AtLeaves P b
AtLeaves P (Tree.function g e) = AtLeaves P e
AtLeaves P _ = ⊤

abbrev pub all_leaves : Naming → List Tree → List Column
all_leaves env es = flat_map (leaves env) es

-- What stands at the leaves of some expressions is within what stands there otherwise: as long and not ended, or ended and at most as long; and the same cells in each row of the first.
pub record AreLeavesWithin (given known : Naming) (es : List Tree) : Type 0 where
  pub ends : ((extent_as_zip (all_leaves given es)).ended ≡ false × (extent_as_zip (all_leaves known es) ≡ extent_as_zip (all_leaves given es)))
      ⊎ ((extent_as_zip (all_leaves given es)).ended ≡ true × (zip_length false (extents (all_leaves given es)) ≤ zip_length false (extents (all_leaves known es))))
  pub cells : (i : ℕ) → i < zip_length false (extents (all_leaves given es)) → AllByRecursion (AtLeaves (λ n. cell_in_row false i (given n) ≡ cell_in_row false i (known n))) es

-- Elementwise expressions over leaves that are within others are within the same expressions over those.
abbrev pub StayWithinByLeaves : Type 0
StayWithinByLeaves =
    (at : ℕ) (given known : Naming) (es : List Tree) → AllByRecursion (λ e. IsTrue (is_elementwise e)) es → AreLeavesWithin given known es
    → IsPartOf (zipped false at (map (eval_with at given) es)) (zipped false at (map (eval_with at known) es))

-- this holds of each name that an expression reads, of whatever kind
abbrev mutual
  pub ReadsAll : (Name → Type 0) → Tree → Type 0
  ReadsAll P (Tree.column name) = P name
  ReadsAll P (Tree.literal l) = ⊤
  ReadsAll P (Tree.binary o l r) = ReadsAll P l × ReadsAll P r
  ReadsAll P (Tree.cast k strict e) = ReadsAll P e
  ReadsAll P (Tree.sort d n e) = ReadsAll P e
  ReadsAll P (Tree.sort_by d n e by) = ReadsAll P e × AllReadAll P by
  ReadsAll P (Tree.gather s e i) = ReadsAll P e × ReadsAll P i
  ReadsAll P (Tree.filter e by) = ReadsAll P e × ReadsAll P by
  ReadsAll P (Tree.aggregate a e) = ReadsAll P e
  ReadsAll P (Tree.ternary p a b) = ReadsAll P p × ReadsAll P a × ReadsAll P b
  ReadsAll P (Tree.function g e) = ReadsAll P e
  ReadsAll P (Tree.slice e o l) = ReadsAll P e × ReadsAll P o × ReadsAll P l
  ReadsAll P Tree.len = ⊤
  ReadsAll P (Tree.left_out w) = ⊤
  ReadsAll P Tree.missing = ⊤

  pub AllReadAll : (Name → Type 0) → Trees → Type 0
  AllReadAll P Trees.no_trees = ⊤
  AllReadAll P (Trees.tree e es) = ReadsAll P e × AllReadAll P es

-- one column, of one kind, in both tables
pub record IsSameIn (t u : Table) (n : Name) : Type 0 where
  pub column : table_column n t ≡ table_column n u
  pub kind : field_kind n t.schema ≡ field_kind n u.schema

-- Over tables of one height that are broken alike, an expression has one column where what it reads is the same.
abbrev pub ReadsTheSame : Type 0
ReadsTheSame = (node : ℕ) (t u : Table) (e : Tree) → length t.rows ≡ length u.rows → t.broken ≡ u.broken → ReadsAll (IsSameIn t u) e → eval node t e ≡ eval node u e
