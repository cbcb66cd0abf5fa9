-- Which node of a shape a node of a run is, and what it has behind it.
use Rattle.std.specs.Prelude.{◌≡◌, List, [], IsTrue, length, ⊤}
use Rattle.ps_flow.specs.Claiming.{streams as does_stream}
use Rattle.ps_flow.specs.Standing.{new_node}
use Rattle.ps_frame.specs.Tables.{Fields}
use Rattle.ps_meaning.specs.Shape.{PhysicalKind, PhysicalNode, in_memory_source, independent_select, streaming_slice, with_row_index}
use Rattle.ps_meaning.specs.Sound.{HasInputs}
use Rattle.ps_nodes.specs.Seen.{kind_of, options_of, progress_of}
use Rattle.ps_options.specs.declared.options.Options.{Options}
use Rattle.ps_turns.specs.Progress.{Progress}
use Rattle.turn_laws.specs.Updating.{SeenNode}
use Rattle.node_work.specs.Working.{Does}
use Rattle.flow_runs.specs.declared.node.RunningNode.{RunningNode}

-- Both have come as far, where a node of the kind looks at it: sources count their morsels, row indexes and slices the rows that they booked.
abbrev pub HasComeAsFar : PhysicalKind → Progress → Progress → Type 0
HasComeAsFar (in_memory_source t) a b = a.sent ≡ b.sent
HasComeAsFar (independent_select es) a b = a.sent ≡ b.sent
HasComeAsFar (with_row_index name offset) a b = a.booked ≡ b.booked
HasComeAsFar (streaming_slice offset n) a b = a.booked ≡ b.booked
HasComeAsFar kind a b = ⊤

-- a source is cut by these options
abbrev pub IsCutBy : PhysicalKind → Options → Options → Type 0
IsCutBy (in_memory_source t) a b = a ≡ b
IsCutBy kind a b = ⊤

-- The node streams, has as many inputs as one of its kind, and is this one of a shape, with this behind it.
pub record IsOf (n : RunningNode) (x : SeenNode) : Type 0 where
  pub streams : IsTrue (does_stream x.node.kind)
  pub inputs : HasInputs x.node.kind (length x.node.inputs)
  pub kind : kind_of n.flow ≡ x.node.kind
  pub come : HasComeAsFar x.node.kind (progress_of n.flow) x.progress
  pub does : Does n.work x.node x.progress

-- The same, in a query that is run by these options.
pub record Has (o : Options) (n : RunningNode) (x : SeenNode) : Type 0 where
  pub is : IsOf n x
  pub cut : IsCutBy x.node.kind (options_of n.flow) o

-- it has nothing behind it
abbrev pub IsNewNode : RunningNode → PhysicalNode → List Fields → Type 0
IsNewNode n p ss = IsOf n (new_node p ss [])
