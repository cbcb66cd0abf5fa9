-- Lines of the table of answers: what is given, and what a node answers to it.
use Rattle.std.specs.Prelude.{List, [], ◌∷◌, map}
use Rattle.node_states.specs.Views.{NodeView, answer_to, stage_to}
use Rattle.ps_ports.specs.Examples.{sides}
use Rattle.ps_ports.specs.Ports.{Sides}
use Rattle.ps_ports.specs.declared.port_state.PortState.{PortState}
use Rattle.ps_ports.specs.declared.port_state.PortState.TheVariants as port

abbrev pub blocked : PortState
blocked = port.Blocked

abbrev pub ready : PortState
ready = port.Ready

abbrev pub done : PortState
done = port.Done

abbrev pub in_alone : PortState → Sides
in_alone input = record { inputs = input ∷ []; outputs = [] }

abbrev pub out_alone : PortState → Sides
out_alone output = record { inputs = []; outputs = output ∷ [] }

abbrev pub two_in : (first second output : PortState) → Sides
two_in a b out = record { inputs = a ∷ b ∷ []; outputs = out ∷ [] }

abbrev pub two_out : (input first second : PortState) → Sides
two_out input a b = record { inputs = input ∷ []; outputs = a ∷ b ∷ [] }

-- what may be given, the last state being blocked, ready and done
abbrev pub into_one : List Sides
into_one = in_alone blocked ∷ in_alone ready ∷ in_alone done ∷ []

abbrev pub to_one : List Sides
to_one = out_alone blocked ∷ out_alone ready ∷ out_alone done ∷ []

abbrev pub from_one : (input : PortState) → List Sides
from_one input = sides input blocked ∷ sides input ready ∷ sides input done ∷ []

abbrev pub from_each : List (List Sides)
from_each = from_one blocked ∷ from_one ready ∷ from_one done ∷ []

abbrev pub from_two : (first second : PortState) → List Sides
from_two a b = two_in a b blocked ∷ two_in a b ready ∷ two_in a b done ∷ []

abbrev pub to_two : (first second : PortState) → List Sides
to_two a b = two_out blocked a b ∷ two_out ready a b ∷ two_out done a b ∷ []

-- what a node answers to each
abbrev pub answers : NodeView → List Sides → List Sides
answers n givens = map (λ given. answer_to given n) givens

-- a node in the stage in which an update leaves it
abbrev pub turned : Sides → NodeView → NodeView
turned given n = record n { progress = record n.progress { stage = stage_to given n } }

-- what a node answers to each after its turn
abbrev pub updates : NodeView → List Sides → List Sides
updates n givens = map (λ given. answer_to given (turned given n)) givens
