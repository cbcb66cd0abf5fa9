-- Small graphs, as the wires of their pipes.
use Rattle.std.specs.Prelude.{ℕ, List, [], ◌∷◌}
use Rattle.ps_ports.specs.declared.port_state.PortState.{PortState}
use Rattle.ps_ports.specs.declared.port_state.PortState.TheVariants as port
use Rattle.ps_ports.specs.Ports.{Sides}
use Rattle.ps_ports.specs.Wires.{Wire}

abbrev pub a_wire : (sender port receiver input : ℕ) → (send_state receive_state : PortState) → Wire
a_wire s k r i send receive = record { sender = s; port = k; receiver = r; input = i; send_state = send; receive_state = receive }

-- node 0, 1 and 2 in a row, with these states of both pipes
abbrev pub a_chain : (first_sent first_received second_sent second_received : PortState) → List Wire
a_chain s r s' r' = a_wire 0 0 1 0 s r ∷ a_wire 1 0 2 0 s' r' ∷ []

abbrev pub ready_chain : List Wire
ready_chain = a_chain port.Ready port.Ready port.Ready port.Ready

-- A source, a multiplexer, a reduce that reads its port 1, a zip of its port 0 and of the reduce, and a sink, once they come to rest for the first time.
abbrev pub shared_column : List Wire
shared_column =
    a_wire 0 0 1 0 port.Ready port.Ready ∷ a_wire 1 1 2 0 port.Ready port.Ready ∷ a_wire 1 0 3 0 port.Ready port.Blocked ∷ a_wire 2 0 3 1 port.Blocked port.Blocked
    ∷ a_wire 3 0 4 0 port.Blocked port.Ready ∷ []

-- Two pairs of a source and a node that takes all first; the readers of the two, node 4 and node 5, say this.
abbrev pub two_takers : PortState → PortState → List Wire
two_takers fourth fifth = a_wire 0 0 2 0 port.Ready port.Ready ∷ a_wire 1 0 3 0 port.Ready port.Ready ∷ a_wire 2 0 4 0 port.Blocked fourth ∷ a_wire 3 0 5 0 port.Blocked fifth ∷ []

-- one input and one output
abbrev pub sides : PortState → PortState → Sides
sides input output = record { inputs = input ∷ []; outputs = output ∷ [] }
