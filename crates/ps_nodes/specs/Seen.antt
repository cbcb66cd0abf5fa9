-- What updates see of the nodes of a graph, and what they make of them.
use Rattle.std.specs.Prelude.{◌≡◌, ℕ, List, [], ◌∷◌}
use Rattle.bare_nodes.specs.Bare.{bare_node}
use Rattle.made_tables.specs.Joinable.{CanJoin}
use Rattle.node_states.specs.Stages.{stage_of}
use Rattle.node_states.specs.Views.{NodeView}
use Rattle.plain_nodes.specs.Exprs.{join_shown}
use Rattle.plain_nodes.specs.Kept.{rows_made}
use Rattle.plain_nodes.specs.Seen.{node_seen, nothing_behind}
use Rattle.plain_nodes.specs.Seen as plain
use Rattle.plain_nodes.specs.Updating.{FindsSeen, UpdatesSeen}
use Rattle.ps_frame.specs.Causes.{Cause}
use Rattle.ps_frame.specs.Tables.{Fields, Row}
use Rattle.ps_frame.specs.declared.refusal.PolarsError.{PolarsError}
use Rattle.ps_meaning.specs.Errors.{cause_error}
use Rattle.ps_meaning.specs.Shape.{PhysicalKind, in_memory_join, in_memory_map}
use Rattle.ps_meaning.specs.Sound.{HasReaders}
use Rattle.ps_meaning.specs.Steps.{JoinStep}
use Rattle.ps_nodes.specs.Fit.{CanMap}
use Rattle.ps_nodes.specs.Forms.{Form, form_of, join_node, map_node, plain_node}
use Rattle.ps_nodes.specs.declared.flow.FlowNode.{FlowNode}
use Rattle.ps_owned_maps.specs.Owned.{step_of}
use Rattle.ps_options.specs.declared.options.Options.{Options}
use Rattle.ps_ports.specs.Ports.{Sides}
use Rattle.ps_turns.specs.Progress.{Progress}
use Rattle.turn_laws.specs.Updating.{SeenNode, heads_seen}

-- A map and a join make a table of their inputs, and so hold the schemas of these. A join gives some of the columns alone.
abbrev pub seen_in : Form → SeenNode
seen_in (plain_node n) = plain.seen n
seen_in (map_node n) =
    record {
      node = bare_node (in_memory_map (step_of n.map)) [];
      schemas = n.input.schema ∷ [];
      empties = [];
      progress = record nothing_behind { stage = stage_of n.stage; sent = n.made.sent; stores = (n.input.rows ∷ []) ∷ []; made = rows_made n.made.table };
    }
seen_in (join_node n) =
    record {
      node = bare_node (in_memory_join (join_shown n.left_on.items n.right_on.items n.args)) n.output_schema;
      schemas = n.left.schema ∷ n.right.schema ∷ [];
      empties = [];
      progress = record nothing_behind { stage = stage_of n.stage; sent = n.made.sent; stores = (n.left.rows ∷ []) ∷ (n.right.rows ∷ []) ∷ []; made = rows_made n.made.table };
    }

-- a node as its updates see it
abbrev pub seen : FlowNode → SeenNode
seen n = seen_in (form_of n)

-- the kind of a node, as shapes have it
abbrev pub kind_of : FlowNode → PhysicalKind
kind_of n = (seen n).node.kind

-- what a node has behind it, as far as an update reads it
abbrev pub progress_of : FlowNode → Progress
progress_of n = (seen n).progress

-- how its query is run, where an update reads that
abbrev pub options_in : Form → Options
options_in (plain_node n) = plain.options_of n
options_in (map_node n) = n.made.options
options_in (join_node n) = n.made.options

abbrev pub options_of : FlowNode → Options
options_of n = options_in (form_of n)

-- a node as its answer to what it is given reads it
abbrev pub view_of : FlowNode → Sides → NodeView
view_of n given = record { options = options_of n; kind = kind_of n; progress = progress_of n; heads = heads_seen (seen n) given; empties = (seen n).empties }

-- a new node of a kind
abbrev pub IsNew : PhysicalKind → FlowNode → Type 0
IsNew kind n = seen n ≡ node_seen kind nothing_behind []

-- a new node of a kind that keeps inputs of these schemas, with these stores
abbrev pub IsNewKeeper : PhysicalKind → List Fields → List (List (List Row)) → FlowNode → Type 0
IsNewKeeper kind schemas stores n = seen n ≡ record (node_seen kind (record nothing_behind { stores = stores }) []) { schemas = schemas }

-- a new join of inputs of these schemas, which gives columns of another one
abbrev pub IsNewJoin : JoinStep → (left right asked : Fields) → FlowNode → Type 0
IsNewJoin j left right asked n =
    seen n ≡ record { node = bare_node (in_memory_join j) asked; schemas = left ∷ right ∷ []; empties = []; progress = record nothing_behind { stores = ([] ∷ []) ∷ ([] ∷ []) ∷ [] } }

-- it has so many inputs, and what makes a table of them can make one
abbrev pub HasInputsIn : Form → ℕ → Type 0
HasInputsIn (plain_node n) k = plain.HasInputsOf n k
HasInputsIn (map_node n) k = (k ≡ 1) × CanMap (step_of n.map) n.input.schema
HasInputsIn (join_node n) k = (k ≡ 2) × CanJoin (join_shown n.left_on.items n.right_on.items n.args) n.left.schema n.right.schema n.output_schema

abbrev pub HasInputsOf : FlowNode → ℕ → Type 0
HasInputsOf n k = HasInputsIn (form_of n) k

abbrev pub HasPorts : FlowNode → (inputs outputs : ℕ) → Type 0
HasPorts n inputs outputs = HasInputsOf n inputs × HasReaders (kind_of n) outputs

-- an update of a node as the definitions of a run have it
abbrev pub Updates : FlowNode → Sides → FlowNode → Sides → Type 0
Updates a given b answer = UpdatesSeen (HasPorts a) (options_of a) (seen a) given (HasPorts b) (options_of b) (seen b) answer

-- a cause that an update of a node finds
abbrev pub Finds : FlowNode → Sides → Cause → Type 0
Finds a given c = FindsSeen (options_of a) (seen a) given c

-- the errors of updates, at no node in particular
abbrev pub Faults : FlowNode → Sides → PolarsError → Type 0
Faults a given e = (c : Cause) × Finds a given c × (e ≡ cause_error c)
