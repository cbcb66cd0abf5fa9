-- What updates see of the plain nodes of a graph, and what they make of them.
use Rattle.std.specs.Prelude.{◌≡◌, ℕ, zero, suc, ◌≤◌, Bool, List, [], ◌∷◌, Option, None, Some, drop, length, map, replicate}
use Rattle.std.proofs.Common.{lit≤}
use Rattle.std.specs.declared.alloc.Global.{Global}
use Rattle.std.specs.declared.vec.Vec.{Vec}
use Rattle.bare_nodes.specs.Bare.{bare_node}
use Rattle.kept_tables.specs.Kept.{rows_of_each}
use Rattle.node_states.specs.Stages.{stage_of}
use Rattle.node_states.specs.Views.{NodeView}
use Rattle.ps_frame.specs.Causes.{Cause}
use Rattle.ps_frame.specs.Tables.{Fields, Row}
use Rattle.ps_frame.specs.declared.refusal.PolarsError.{PolarsError}
use Rattle.ps_meaning.specs.Errors.{cause_error}
use Rattle.ps_meaning.specs.Schemas.{names_of}
use Rattle.ps_meaning.specs.Shape.{PhysicalKind, equi_join, filter_node, group_by_node, in_memory_sink, in_memory_source, independent_select, multiplexer, negative_slice, ordered_union, reduce, select_node, simple_projection, stream_map, streaming_slice, with_row_index, zip_node}
use Rattle.ps_meaning.specs.Sound.{HasInputs, HasReaders}
use Rattle.ps_meaning.specs.Steps.{exprs_of, user}
use Rattle.plain_nodes.specs.Exprs.{expr_shown}
use Rattle.plain_nodes.specs.Kept.{rows_made}
use Rattle.plain_nodes.specs.Plain.{PlainNode}
use Rattle.plain_nodes.specs.Plain as plain
use Rattle.plain_nodes.specs.Reductions.{reduced}
use Rattle.plain_nodes.specs.Updating.{FindsSeen, UpdatesSeen}
use Rattle.plain_nodes.specs.declared.zip.ZipNode.{ZipNode}
use Rattle.ps_options.specs.declared.options.Options.{Options}
use Rattle.ps_ports.specs.Ports.{Sides}
use Rattle.ps_turns.specs.Keys.{distinct_keys}
use Rattle.ps_turns.specs.Progress.{Progress, taking}
use Rattle.turn_laws.specs.Updating.{SeenNode, heads_seen}

-- the kind of a node, as shapes have it
abbrev pub kind_of : PlainNode → PhysicalKind
kind_of (plain.filter n) = filter_node (expr_shown n.predicate).1
kind_of (plain.select n) = select_node (map expr_shown n.selectors.items) n.extend_original
kind_of (plain.independent_select n) = independent_select (map expr_shown n.selectors.items)
kind_of (plain.simple_projection n) = simple_projection n.columns.items
kind_of (plain.with_row_index n) = with_row_index n.name n.offset
kind_of (plain.map n) = stream_map (user n.function)
kind_of (plain.streaming_slice n) = streaming_slice n.state.offset n.state.length
kind_of (plain.in_memory_source n) = in_memory_source n.source
kind_of (plain.ordered_union n) = ordered_union
kind_of (plain.multiplexer n) = multiplexer
kind_of (plain.in_memory_sink n) = in_memory_sink
kind_of (plain.zip n) = zip_node n.null_extend
kind_of (plain.reduce n) = reduce (reduced (names_of n.output_schema) (map expr_shown n.selectors.items) n.reductions.items)
kind_of (plain.negative_slice n) = negative_slice n.back n.length
kind_of (plain.group_by n) = group_by_node (map expr_shown n.keys.items) (reduced (drop (length n.keys.items) (names_of n.output_schema)) (map expr_shown n.selectors.items) n.reductions.items)
kind_of (plain.equi_join n) = equi_join (record { left_on = exprs_of (map expr_shown n.left_on.items); right_on = exprs_of (map expr_shown n.right_on.items); args = n.args })

-- nothing was given, booked or stored
abbrev pub nothing_behind : Progress
nothing_behind = record { stage = taking; sent = 0; booked = 0; stores = []; taken = []; made = None; lists = [] }

-- a store of so many rows: no update reads more of one
abbrev pub counted_store : ℕ → List (List Row)
counted_store n = replicate n [] ∷ []

-- so many lists of keys, the first of which holds all
abbrev pub all_in_first : List Row → ℕ → List (List Row)
all_in_first keys zero = []
all_in_first keys (suc k) = keys ∷ replicate k []

-- the lists of a group-by: an update reads how many there are, and not which rows came
abbrev pub lists_of : PhysicalKind → ℕ → List (List Row)
lists_of kind n = all_in_first (distinct_keys (bare_node kind []) []) n

-- what a node has behind it, as far as an update reads it
abbrev pub progress_of : PlainNode → Progress
progress_of (plain.independent_select n) = record nothing_behind { sent = n.sent }
progress_of (plain.with_row_index n) = record nothing_behind { booked = n.booked }
progress_of (plain.streaming_slice n) = record nothing_behind { booked = n.state.booked }
progress_of (plain.in_memory_source n) = record nothing_behind { sent = n.sent }
progress_of (plain.zip n) = record nothing_behind { booked = n.booked; stores = map counted_store n.came.items }
progress_of (plain.reduce n) = record nothing_behind { stage = stage_of n.stage; sent = n.sent }
progress_of (plain.negative_slice n) =
    record nothing_behind { stage = stage_of n.stage; sent = n.made.sent; booked = n.booked; stores = rows_of_each n.input ∷ []; made = rows_made n.made.table }
progress_of (plain.group_by n) = record nothing_behind { stage = stage_of n.stage; sent = n.sent; lists = lists_of (kind_of (plain.group_by n)) n.lists }
progress_of (plain.equi_join n) = record nothing_behind { stage = stage_of n.stage; sent = n.sent }
progress_of _ = nothing_behind

-- which of the pipes that leave it are empty
abbrev pub told_empties : Option (Vec Bool Global) → List Bool
told_empties None = []
told_empties (Some es) = es.items

abbrev pub empties_of : PlainNode → List Bool
empties_of (plain.multiplexer n) = told_empties n.empties
empties_of _ = []

-- how its query is run, where an update reads that: only sources, and what acts as one, hold it
abbrev pub any_options : Options
any_options =
    record {
      workers = 1;
      morsel_rows = 1;
      partitions = 1;
      seed = 0;
      some_workers = lit≤ tt;
      few_workers = lit≤ tt;
      some_rows = lit≤ tt;
      few_rows = lit≤ tt;
      some_partitions = lit≤ tt;
      few_partitions = lit≤ tt;
    }

abbrev pub options_of : PlainNode → Options
options_of (plain.in_memory_source n) = n.options
options_of (plain.negative_slice n) = n.made.options
options_of (plain.group_by n) = n.options
options_of _ = any_options

-- a node of a kind, with what it has behind it
abbrev pub node_seen : PhysicalKind → Progress → List Bool → SeenNode
node_seen kind progress empties = record { node = bare_node kind []; schemas = []; empties = empties; progress = progress }

abbrev pub seen : PlainNode → SeenNode
seen n = node_seen (kind_of n) (progress_of n) (empties_of n)

-- a node as its answer to what it is given reads it
abbrev pub view_of : PlainNode → Sides → NodeView
view_of n given = record { options = options_of n; kind = kind_of n; progress = progress_of n; heads = heads_seen (seen n) given; empties = empties_of n }

-- a new node of a kind
abbrev pub IsNew : PhysicalKind → PlainNode → Type 0
IsNew kind n = seen n ≡ node_seen kind nothing_behind []

-- a new node of a kind that keeps inputs of these schemas, with these stores
abbrev pub IsNewKeeper : PhysicalKind → List Fields → List (List (List Row)) → PlainNode → Type 0
IsNewKeeper kind schemas stores n = seen n ≡ record (node_seen kind (record nothing_behind { stores = stores }) []) { schemas = schemas }

-- a new zip of so many inputs
pub record IsNewZip (extend : Bool) (inputs : ℕ) (n : ZipNode) : Type 0 where
  pub extends : n.null_extend ≡ extend
  pub booked : n.booked ≡ 0
  pub came : n.came.items ≡ replicate inputs 0
  pub heads : length n.heads.items ≡ inputs

-- it has so many inputs: a zip as many as it has stores and heads
abbrev pub HasInputsOf : PlainNode → ℕ → Type 0
HasInputsOf (plain.zip n) k = (1 ≤ k) × (length n.came.items ≡ k) × (length n.heads.items ≡ k)
HasInputsOf n k = HasInputs (kind_of n) k

abbrev pub HasPorts : PlainNode → (inputs outputs : ℕ) → Type 0
HasPorts n inputs outputs = HasInputsOf n inputs × HasReaders (kind_of n) outputs

-- an update of a node as the definitions of a run have it
abbrev pub Updates : PlainNode → Sides → PlainNode → Sides → Type 0
Updates a given b answer = UpdatesSeen (HasPorts a) (options_of a) (seen a) given (HasPorts b) (options_of b) (seen b) answer

-- the errors of updates, at no node in particular
abbrev pub Faults : PlainNode → Sides → PolarsError → Type 0
Faults a given e = (c : Cause) × FindsSeen (options_of a) (seen a) given c × (e ≡ cause_error c)
