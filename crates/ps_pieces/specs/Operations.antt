-- What operations are as nodes of shapes and as steps of plans, and over which tables they can be computed.
use Rattle.std.specs.Prelude.{◌≡◌, ◌<◌, ℕ, ◌+◌, true, false, List, [], ◌∷◌, Some, unwrap_or, IsTrue, ⊤}
use Rattle.pu_base.specs.declared.arena.Node.{Node}
use Rattle.ps_frame.specs.Functions.{Functions}
use Rattle.ps_frame.specs.Lawful.{empty_frame}
use Rattle.ps_frame.specs.Tables.{Fields, Frame, Row}
use Rattle.ps_frame.specs.Trees.{Tree, tree_at}
use Rattle.ps_frame.specs.Typing.{kind_over}
use Rattle.ps_frame.specs.declared.value.DataType.TheVariants as kind
use Rattle.ps_meaning.specs.Shape.{PhysicalKind, filter_node, independent_select, select_node, simple_projection, stream_map, with_row_index}
use Rattle.ps_meaning.specs.Schemas.{expr_names, output_schema}
use Rattle.ps_meaning.specs.Sound.{have_all_kinds}
use Rattle.ps_meaning.specs.StepRefusals.{repeats}
use Rattle.ps_meaning.specs.Steps.{Name, Step, filter, hstack, named_trees, project, row_index, select, step_exprs, user}
use Rattle.ps_pieces.specs.declared.parameters.Operation.{Operation}
use Rattle.ps_pieces.specs.declared.parameters.Operation.TheVariants as operation
use Rattle.ps_pieces.specs.declared.parameters.Parameters.{Parameters}

-- The kind of an operation over rows that come behind so many. A row index counts on from these.
abbrev pub kind_in : (Node → Tree) → (before : ℕ) → Operation → PhysicalKind
kind_in f k (operation.Select es) = select_node (named_trees f es.items) false
kind_in f k (operation.HStack es) = select_node (named_trees f es.items) true
kind_in f k (operation.IndependentSelect es) = independent_select (named_trees f es.items)
kind_in f k (operation.Filter e) = filter_node (f e.node)
kind_in f k (operation.SimpleProjection names) = simple_projection names.items
kind_in f k (operation.WithRowIndex name offset) = with_row_index name (Some (unwrap_or offset 0 + k))
kind_in f k (operation.Map n) = stream_map (user n)

-- the step whose case it takes
abbrev pub step_in : (Node → Tree) → (before : ℕ) → Operation → Step
step_in f k (operation.Select es) = select (named_trees f es.items)
step_in f k (operation.HStack es) = hstack (named_trees f es.items)
step_in f k (operation.IndependentSelect es) = select (named_trees f es.items)
step_in f k (operation.Filter e) = filter (f e.node)
step_in f k (operation.SimpleProjection names) = project names.items
step_in f k (operation.WithRowIndex name offset) = row_index name (Some (unwrap_or offset 0 + k))
step_in f k (operation.Map n) = user n

abbrev pub kind_computed : Parameters → (before : ℕ) → PhysicalKind
kind_computed p k = kind_in (tree_at p.exprs.items) k p.operation

abbrev pub step_computed : Parameters → (before : ℕ) → Step
step_computed p k = step_in (tree_at p.exprs.items) k p.operation

-- What a piece of the world has of the table: its schema and its rows, but for a select that reads no input.
abbrev pub schemas_taken : Operation → Frame → List Fields
schemas_taken (operation.IndependentSelect es) t = []
schemas_taken o t = t.schema ∷ []

abbrev pub rows_taken : Operation → Frame → List (List Row)
rows_taken (operation.IndependentSelect es) t = []
rows_taken o t = t.rows ∷ []

-- What single operations ask of the table, and of the functions that were handed in: the names of new columns differ, a predicate is Boolean, a select that reads no input has a table without columns, and the function is there.
abbrev pub Suits : Functions → (Node → Tree) → Operation → Frame → Type 0
Suits F f (operation.HStack es) t = (name : Name) → ¬ IsTrue (repeats name (expr_names (named_trees f es.items)))
Suits F f (operation.Filter e) t = kind_over t.schema (f e.node) ≡ Some kind.Boolean
Suits F f (operation.IndependentSelect es) t = t ≡ empty_frame []
Suits F f (operation.Map n) t = n < F.count
Suits F f o t = ⊤

-- Parameters that can be computed over a table which comes behind so many rows: their schema is that of the step, and each expression has a kind.
pub record IsFitFor (F : Functions) (p : Parameters) (before : ℕ) (t : Frame) : Type 0 where
  pub schema : output_schema F (step_computed p before) (t.schema ∷ []) ≡ Some p.schema
  pub kinds : IsTrue (have_all_kinds t.schema (step_exprs (step_computed p before)))
  pub suits : Suits F (tree_at p.exprs.items) p.operation t
