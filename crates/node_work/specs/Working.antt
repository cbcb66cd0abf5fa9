-- What nodes of a run do with morsels, and which nodes of a shape do so.
use Rattle.std.specs.Prelude.{◌≡◌, ℕ, ◌+◌, List, [], ◌∷◌, Some, None, Option, length, unwrap_or, ⊤}
use Rattle.kept_tables.specs.Kept.{rows_of_each}
use Rattle.ps_frame.specs.Tables.{Fields, Frame}
use Rattle.ps_frame.specs.Trees.{tree_at}
use Rattle.ps_frame.specs.declared.expr.AExpr.{AExpr}
use Rattle.ps_meaning.specs.Shape.{PhysicalKind, PhysicalNode, in_memory_sink, in_memory_source, ordered_union, streaming_slice, with_row_index}
use Rattle.ps_meaning.specs.Sound.{HasInputs}
use Rattle.ps_pieces.specs.Operations.{kind_computed, kind_in}
use Rattle.ps_pieces.specs.declared.parameters.Operation.{Operation}
use Rattle.ps_pieces.specs.declared.parameters.Parameters.{Parameters}
use Rattle.ps_turns.specs.Progress.{Progress}
use Rattle.ps_world.specs.Opening.{no_progress}
use Rattle.node_work.specs.Stored.{Morsels, as_table}
use Rattle.node_work.specs.declared.work.Work.{Work}
use Rattle.node_work.specs.declared.work.Work.TheVariants as work

-- The kind of a node over rows that come behind so many: a row index counts on from these.
abbrev pub kind_behind : (before : ℕ) → PhysicalKind → PhysicalKind
kind_behind k (with_row_index name offset) = with_row_index name (Some (unwrap_or offset 0 + k))
kind_behind k kind = kind

-- a source hands cuts of its table on, and a slice what it keeps of morsels
abbrev pub HandsRowsOn : PhysicalKind → Type 0
HandsRowsOn (in_memory_source t) = ⊤
HandsRowsOn (streaming_slice offset n) = ⊤
HandsRowsOn kind = ⊥

-- the parameters of a node's pieces
pub record AreOf (p : PhysicalNode) (q : Parameters) : Type 0 where
  pub kind : (before : ℕ) → kind_computed q before ≡ kind_behind before p.kind
  pub schema : q.schema ≡ p.schema
  pub origin : q.origin.0 ≡ p.origin

-- a sink stored these
pub record HasStored (p : PhysicalNode) (progress : Progress) (m : Morsels) : Type 0 where
  pub kind : p.kind ≡ in_memory_sink
  pub schema : m.schema ≡ p.schema
  pub origin : m.origin.0 ≡ p.origin
  pub morsels : progress.stores ≡ rows_of_each m.morsels ∷ []

-- it is what the node does that has this behind it
abbrev pub Does : Work → PhysicalNode → Progress → Type 0
Does work.HandsOn p progress = HandsRowsOn p.kind
Does (work.Unites sent) p progress = (p.kind ≡ ordered_union) × (progress.sent ≡ sent)
Does (work.Computes q) p progress = AreOf p q.value
Does (work.Stores m) p progress = HasStored p progress m

-- the table of what it stored
abbrev pub table_stored : Work → Option Frame
table_stored (work.Stores m) = Some (as_table m)
table_stored w = None

-- once that was given
abbrev pub without_table : Work → Work
without_table (work.Stores m) = work.Stores (record m { morsels = []; spare = 0 })
without_table w = w

-- an operation, with its expressions in an arena, is of this kind
abbrev pub IsOperationOf : List AExpr → PhysicalKind → Operation → Type 0
IsOperationOf exprs kind op = (before : ℕ) → kind_in (tree_at exprs) before op ≡ kind_behind before kind

-- it is what a new node does of this kind, with a table of this schema and this origin, whichever node of a shape it is
abbrev pub IsNewWork : PhysicalKind → Fields → (origin : ℕ) → Work → Type 0
IsNewWork kind s origin w = (p : PhysicalNode) → p.kind ≡ kind → p.schema ≡ s → p.origin ≡ origin → HasInputs p.kind (length p.inputs) → Does w p (no_progress (length p.inputs))
