-- Port states, and what an update is given and answers.
use Rattle.std.specs.Prelude.{Bool, true, false, List, [], ◌∷◌, map, cond}
use Rattle.std.specs.List.{list_all}
use Rattle.ps_ports.specs.declared.port_state.PortState.{PortState}
use Rattle.ps_ports.specs.declared.port_state.PortState.TheVariants as port

abbrev pub is_done : PortState → Bool
is_done port.Done = true
is_done _ = false

abbrev pub is_ready : PortState → Bool
is_ready port.Ready = true
is_ready _ = false

abbrev pub is_blocked : PortState → Bool
is_blocked port.Blocked = true
is_blocked _ = false

abbrev pub all_done : List PortState → Bool
all_done ss = list_all is_done ss

abbrev pub all_blocked : List PortState → Bool
all_blocked ss = list_all is_blocked ss

-- the state of a node's first port of one side, and of its second
abbrev pub first_port : List PortState → PortState
first_port [] = port.Blocked
first_port (s ∷ ss) = s

abbrev pub second_port : List PortState → PortState
second_port [] = port.Blocked
second_port (s ∷ ss) = first_port ss

abbrev pub repeated : PortState → List PortState → List PortState
repeated s ss = map (λ x. s) ss

-- The states of a node's inputs and of its outputs. An update is given what the senders say of the inputs and the readers of the outputs, and answers what the node says of both.
pub record Sides : Type 0 where
  pub inputs : List PortState
  pub outputs : List PortState

-- the new state, but what is done stays done
abbrev pub kept_state : (old new : PortState) → PortState
kept_state old new = cond (is_done old) port.Done new

-- whatever a rule gives, a port that is done as it is given is answered done
abbrev pub kept_done : (given news : List PortState) → List PortState
kept_done [] news = []
kept_done (old ∷ olds) [] = []
kept_done (old ∷ olds) (new ∷ news) = kept_state old new ∷ kept_done olds news

abbrev pub keeping_done : (given answered : Sides) → Sides
keeping_done given a = record { inputs = kept_done given.inputs a.inputs; outputs = kept_done given.outputs a.outputs }
