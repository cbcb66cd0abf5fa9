-- The pipes and the origins of a graph as it is put together of a shape.
use Rattle.std.specs.Prelude.{ℕ, ◌+◌, List, [], ◌∷◌, ◌++◌, map}
use Rattle.pu_base.specs.declared.arena.Node.{Node}
use Rattle.ps_ports.specs.Wires.{Wire}
use Rattle.ps_ports.specs.declared.port_state.PortState.TheVariants as port
use Rattle.ps_meaning.specs.Shape.{PhysicalNode, Shape}
use Rattle.ps_phys.specs.Walks.{Stream}

-- a pipe from a node's port to an input, blocked on both ends
abbrev pub blocked_wire : (receiver input : ℕ) → Stream → Wire
blocked_wire r i s = record { sender = s.0; port = s.1; receiver = r; input = i; send_state = port.Blocked; receive_state = port.Blocked }

-- the pipes to a node from these streams, the first to the input i
abbrev pub wires_to : (receiver input : ℕ) → List Stream → List Wire
wires_to r i [] = []
wires_to r i (s ∷ ss) = blocked_wire r i s ∷ wires_to r (i + 1) ss

-- the pipes of a shape whose first node has the number n: those to each node in turn
abbrev pub wires_from : ℕ → Shape → List Wire
wires_from n [] = []
wires_from n (p ∷ ps) = wires_to n 0 p.inputs ++ wires_from (n + 1) ps

-- the logical nodes of which a shape's nodes come
abbrev pub origins_in : Shape → List Node
origins_in shape = map (λ (p : PhysicalNode). record { 0 = p.origin }) shape
