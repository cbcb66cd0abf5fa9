-- The pipes that a new node brings.
use Rattle.std.specs.Prelude.{◌≡◌, ℕ, ◌+◌, List, [], ◌∷◌, ◌++◌, Option, Some, length, slice_set}
use Rattle.ps_ports.specs.declared.port_state.PortState.TheVariants as port
use Rattle.ps_ports.specs.Wires.{Wire}
use Rattle.ps_graph.specs.declared.graph.Graph.{Graph}
use Rattle.ps_graph.specs.declared.graph.GraphNode.{GraphNode}
use Rattle.ps_graph.specs.declared.graph.LogicalPipe.{LogicalPipe}
use Rattle.ps_graph.specs.declared.key.GraphNodeKey.{GraphNodeKey}
use Rattle.ps_graph.specs.declared.key.LogicalPipeKey.{LogicalPipeKey}
use Rattle.ps_graph.specs.Shown.{IsLinkedUpTo, is_to, nodes_of, numbers, places_from, values, wires_of}
use Rattle.ps_graph.specs.Turning.{origins_of}

-- a pipe from a port to an input, blocked on both ends
abbrev pub fresh_pipe : (sender receiver : GraphNodeKey) → (port input : ℕ) → LogicalPipe
fresh_pipe s r k i = record { sender = s; send_port = k; send_state = port.Blocked; receiver = r; recv_port = i; recv_state = port.Blocked }

abbrev pub fresh_wire : (receiver input : ℕ) → GraphNodeKey × ℕ → Wire
fresh_wire r i source = record { sender = source.0.0; port = source.1; receiver = r; input = i; send_state = port.Blocked; receive_state = port.Blocked }

-- the wires to a node from these ports, the first to the input i
abbrev pub fresh_wires : (receiver input : ℕ) → List (GraphNodeKey × ℕ) → List Wire
fresh_wires r i [] = []
fresh_wires r i (source ∷ sources) = fresh_wire r i source ∷ fresh_wires r (i + 1) sources

module _ {N : Type 0} where
  -- one of the nodes has an output more
  pub record WithOutput (node : GraphNode N) (sender : ℕ) (pipe : LogicalPipeKey) (slots slots' : List (Option (GraphNode N))) : Type 0 where
    pub after : GraphNode N
    pub next : slots' ≡ slice_set slots sender (Some after)
    pub compute : after.compute ≡ node.compute
    pub origin : after.origin ≡ node.origin
    pub inputs : after.inputs ≡ node.inputs
    pub outputs : after.outputs.items ≡ node.outputs.items ++ pipe ∷ []

  -- Pipes were added to a graph, and named by their senders; their receiver is the node that comes next, and these are their keys.
  pub record WithPipes (old new : Graph N) (fresh : List Wire) (names : List LogicalPipeKey) : Type 0 where
    pub linked : IsLinkedUpTo (length new.nodes.slots + 1) new
    pub nodes : nodes_of new.nodes.slots ≡ nodes_of old.nodes.slots
    pub origins : origins_of new.nodes.slots ≡ origins_of old.nodes.slots
    pub count : length new.nodes.slots ≡ length old.nodes.slots
    pub wires : wires_of new.pipes.slots ≡ wires_of old.pipes.slots ++ fresh
    pub keys : numbers names ≡ places_from 0 (is_to (length old.nodes.slots)) (values new.pipes.slots)
