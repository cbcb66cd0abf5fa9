-- A small plan, and the pipes of the graph that it becomes.
use Rattle.std.specs.Prelude.{ℕ, [], ◌∷◌, List, Option, None, Some}
use Rattle.ps_ports.specs.Examples.{a_wire}
use Rattle.ps_ports.specs.Wires.{Wire}
use Rattle.ps_ports.specs.declared.port_state.PortState.TheVariants as port
use Rattle.ps_frame.specs.declared.value.DataType.TheVariants as kind
use Rattle.ps_graph.specs.declared.key.GraphNodeKey.{GraphNodeKey}
use Rattle.ps_phys.specs.declared.phys.PhysNode.{PhysNode}
use Rattle.ps_phys.specs.declared.phys.PhysNodeKey.{PhysNodeKey}
use Rattle.ps_phys.specs.declared.phys.PhysNodeKind.TheVariants as phys
use Rattle.ps_phys.specs.declared.phys.PhysStream.{PhysStream}

-- a pipe that is new
abbrev pub a_blocked : (sender port receiver input : ℕ) → Wire
a_blocked s k r i = a_wire s k r i port.Blocked port.Blocked

-- the pipes of a zip that reads both ports of a multiplexer, one through a filter and one through a reduce
abbrev pub shared_wires : List Wire
shared_wires = a_blocked 0 0 1 0 ∷ a_blocked 1 0 2 0 ∷ a_blocked 1 1 3 0 ∷ a_blocked 2 0 4 0 ∷ a_blocked 3 0 4 1 ∷ []

abbrev pub a_key : ℕ → GraphNodeKey
a_key n = record { 0 = n }

-- physical node 1 became node 0, and physical node 0 node 1
abbrev pub two_keys : List (Option GraphNodeKey)
two_keys = Some (a_key 1) ∷ Some (a_key 0) ∷ None ∷ []

abbrev pub a_stream : (node port : ℕ) → PhysStream
a_stream n k = record { node = record { 0 = n }; port = k }

-- a union of a column a, which comes from node 1
abbrev pub a_union : PhysNode
a_union = record { output_schema = ((97 ∷ []), kind.Int64) ∷ []; kind = phys.OrderedUnion (a_stream 1 0 ∷ []); origin = record { 0 = 3 } }

-- it stands at number 1, and no node stands at number 0
abbrev pub one_node : List (Option PhysNode)
one_node = None ∷ Some a_union ∷ []
