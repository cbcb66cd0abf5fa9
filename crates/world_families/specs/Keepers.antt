-- Nodes that give nothing on before all of their input has come: sinks, what makes a table, reduces and group-bys.
use Rattle.std.specs.Prelude.{◌≡◌, ℕ, ◌<◌, ◌≤◌, List, [], ◌∷◌, length, Option, Some, None, is_some, get_or, slice_get, Contains, IsTrue, IsFalse}
use Rattle.ps_frame.specs.Functions.{Functions}
use Rattle.ps_frame.specs.Tables.{Fields, IsWhole, Row, Table}
use Rattle.ps_meaning.specs.Shape.{PhysicalCase, PhysicalKind, negative_slice}
use Rattle.ps_ports.specs.Ports.{is_done}
use Rattle.ps_turns.specs.Ends.{HoldsEnd}
use Rattle.ps_turns.specs.Heads.{stored_rows}
use Rattle.ps_turns.specs.Keys.{IsSplit}
use Rattle.ps_turns.specs.Progress.{Progress, is_giving, is_taking}
use Rattle.ps_turns.specs.Claims.{all_taken}
use Rattle.ps_turns.specs.Results.{IsPartial}
use Rattle.ps_turns.specs.Tables.{whole_tables}
use Rattle.ps_meaning.specs.Cases.{rows_table}
use Rattle.ps_turns.specs.Tasks.{Piece, computes, gives_part, keeps}
use Rattle.ps_world.specs.Facts.{keeps_one}
use Rattle.ps_world.specs.World.{Node, Pipe, World, running, schemas_for}
use Rattle.world_families.specs.Sources.{HasGivenAll, KeepsNone, cut_work}
use Rattle.world_families.specs.Work.{AllComplete, Enters, Gives, Leaves, Work, rows_read, rows_received, work_of}

-- While it takes, none of its outputs is dropped; after that it is done with its inputs.
pub record TakesFirst (w : World) (n : ℕ) (node : Node) : Type 0 where
  pub takes : IsTrue (is_taking node.progress.stage) → (p : Pipe) → Leaves w n p → IsFalse p.is_dropped
  pub took : IsFalse (is_taking node.progress.stage) → (q : Pipe) → Enters w n q → IsTrue (is_done q.wire.receive_state)

-- A store has the rows that were read; a negative slice keeps enough of their end.
abbrev pub Stores : PhysicalKind → Progress → Pipe → Type 0
Stores (negative_slice back count) progress q = HoldsEnd back (rows_read q) progress.booked (get_or progress.stores q.wire.input [])
Stores _ progress q = stored_rows (get_or progress.stores q.wire.input []) ≡ rows_read q

abbrev pub StoresAll : World → ℕ → Node → Type 0
StoresAll w n node = (q : Pipe) → Enters w n q → Stores node.node.kind node.progress q

-- these are the rows of a whole table that the node may give over all that came
abbrev pub IsMadeOfAll : Functions → World → ℕ → Node → List Row → Type 0
IsMadeOfAll F w n node rows = AllComplete w n × (T : Table) × PhysicalCase F node.node (whole_tables (schemas_for w node) (rows_received w n)) T × IsWhole T × (T.rows ≡ rows)

-- Maps, in-memory joins and negative slices make a table of all that came, and give its cuts.
pub record HoldsMade (F : Functions) (w : World) (n : ℕ) (node : Node) : Type 0 where
  pub turn : TakesFirst w n node
  pub stores : StoresAll w n node
  pub made : (rows : List Row) → node.progress.made ≡ Some rows → IsMadeOfAll F w n node rows
  pub has_made : IsTrue (is_giving node.progress.stage) → IsTrue (is_some node.progress.made)
  pub gives : Gives F w n (λ k x. (rows : List Row) × (node.progress.made ≡ Some rows) × (x ≡ cut_work w.options node.node.schema rows k)) KeepsNone (HasGivenAll w node)

-- what a node keeps of an input: the morsel of each number
abbrev pub slots_at : Node → (input : ℕ) → List (Option (List Row))
slots_at node i = get_or node.progress.taken i []

abbrev pub schema_of_input : World → Node → (input : ℕ) → Fields
schema_of_input w node i = get_or (schemas_for w node) i []

-- a piece that keeps a morsel of an input
abbrev pub IsKeptOf : World → ℕ → Node → (input : ℕ) → Piece → Type 0
IsKeptOf w n node i x =
    (x.input ≡ i) × (q : Pipe) × Enters w n q × (q.wire.input ≡ i)
    × ((rs : List Row) × (slice_get q.got x.number ≡ Some (Some rs)) × (work_of x ≡ record { task = keeps node.node; schemas = schema_of_input w node i ∷ []; tables = rs ∷ [] }))

-- What stands in a slot is the morsel of its number, of which there is a partial; and where nothing stands yet, a piece is out, unless a fault ended the run.
pub record KeepsMorsels (F : Functions) (w : World) (n : ℕ) (node : Node) (input : ℕ) : Type 0 where
  pub kept : (q : Pipe) (k : ℕ) (rs : List Row) → Enters w n q → q.wire.input ≡ input → slice_get (slots_at node input) k ≡ Some (Some rs)
      → (slice_get q.got k ≡ Some (Some rs)) × (size : ℕ) × IsPartial F node.node node.node.kind input (rows_table (schema_of_input w node input) rs ∷ []) size
  pub awaited : w.ending ≡ running → (k : ℕ) → slice_get (slots_at node input) k ≡ Some None → (x : Piece) × Contains w.outs x × (x.node ≡ n) × (x.input ≡ input) × (x.number ≡ k) × IsTrue (keeps_one x.task)

-- all inputs are complete, and all that came is kept
abbrev pub HasKeptAll : World → ℕ → Node → Type 0
HasKeptAll w n node = AllComplete w n × (all_taken node.progress ≡ rows_received w n)

-- A reduce computes one row of all that came.
pub record HoldsReduce (F : Functions) (w : World) (n : ℕ) (node : Node) : Type 0 where
  pub turn : TakesFirst w n node
  pub keeps_morsels : KeepsMorsels F w n node 0
  pub has_all : IsTrue (is_giving node.progress.stage) → HasKeptAll w n node
  pub gives : Gives F w n (λ k x. (k ≡ 0) × AllComplete w n × (x ≡ record { task = computes node.node; schemas = schemas_for w node; tables = rows_received w n })) (IsKeptOf w n node 0) (AllComplete w n × (0 < node.progress.sent))

-- its lists hold each distinct key of all that came once
abbrev pub SplitsAll : World → ℕ → Node → Type 0
SplitsAll w n node = AllComplete w n × IsSplit node.node (whole_tables (schemas_for w node) (rows_received w n)) w.options.partitions node.progress.lists

-- all that came is kept, and each of its distinct keys stands once in the lists
abbrev pub HasSplitAll : World → ℕ → Node → Type 0
HasSplitAll w n node = HasKeptAll w n node × SplitsAll w n node

-- what is done for a number: the groups of the keys in the list of that number
abbrev pub IsPartWork : World → ℕ → Node → ℕ → Work → Type 0
IsPartWork w n node k x =
    HasSplitAll w n node × (k < length node.progress.lists) × (x ≡ record { task = gives_part node.node (get_or node.progress.lists k []); schemas = schemas_for w node; tables = rows_received w n })

-- A group-by gives the rows of one list of keys after the other.
pub record HoldsGroups (F : Functions) (w : World) (n : ℕ) (node : Node) : Type 0 where
  pub turn : TakesFirst w n node
  pub keeps_morsels : KeepsMorsels F w n node 0
  pub has_all : IsTrue (is_giving node.progress.stage) → HasSplitAll w n node
  pub gives : Gives F w n (IsPartWork w n node) (IsKeptOf w n node 0) (HasSplitAll w n node × (length node.progress.lists ≤ node.progress.sent))
