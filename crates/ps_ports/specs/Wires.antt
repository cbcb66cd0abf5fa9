-- The pipes of a graph as the graph itself sees them: which ports they join, and what both ends say.
use Rattle.std.specs.Prelude.{◌≡◌, ℕ, ◌<◌, Bool, ◌&&◌, ◌||◌, not, cond, List, nat_eq, nat_lt, map, length, get_or, Contains}
use Rattle.std.specs.List.{filter as kept}
use Rattle.ps_frame.specs.Sorting.{in_order}
use Rattle.ps_frame.specs.Zip.{below}
use Rattle.ps_ports.specs.declared.port_state.PortState.{PortState}
use Rattle.ps_ports.specs.Ports.{Sides, is_done, is_ready, kept_state}

pub record Wire : Type 0 where
  pub sender : ℕ
  pub port : ℕ
  pub receiver : ℕ
  pub input : ℕ
  pub send_state : PortState
  pub receive_state : PortState

-- the wires into a node, in the order of its inputs, and out of it, in the order of its ports
abbrev pub wires_in : ℕ → List Wire → List Wire
wires_in n ws = in_order (λ (p q : Wire). nat_lt p.input q.input) (kept (λ (p : Wire). nat_eq p.receiver n) ws)

abbrev pub wires_out : ℕ → List Wire → List Wire
wires_out n ws = in_order (λ (p q : Wire). nat_lt p.port q.port) (kept (λ (p : Wire). nat_eq p.sender n) ws)

-- what an update of a node is given: the states of the other ends
abbrev pub given_to : ℕ → List Wire → Sides
given_to n ws = record { inputs = map (λ (p : Wire). p.send_state) (wires_in n ws); outputs = map (λ (p : Wire). p.receive_state) (wires_out n ws) }

-- what a node says: the states of its own ends
abbrev pub said_by : ℕ → List Wire → Sides
said_by n ws = record { inputs = map (λ (p : Wire). p.receive_state) (wires_in n ws); outputs = map (λ (p : Wire). p.send_state) (wires_out n ws) }

-- A wire with a node's answer at the ends that are its own. An end that is done stays so.
abbrev pub received : ℕ → Sides → Wire → Wire
received n a p = cond (nat_eq p.receiver n) (record p { receive_state = kept_state p.receive_state (get_or a.inputs p.input p.receive_state) }) p

abbrev pub sent : ℕ → Sides → Wire → Wire
sent n a p = cond (nat_eq p.sender n) (record p { send_state = kept_state p.send_state (get_or a.outputs p.port p.send_state) }) p

-- a node's answer, written back to its pipes
abbrev pub written : ℕ → Sides → List Wire → List Wire
written n a ws = map (λ p. received n a (sent n a p)) ws

abbrev pub both_ready : Wire → Bool
both_ready p = is_ready p.send_state && is_ready p.receive_state

-- a wire is live where it is done on neither end
abbrev pub is_live : Wire → Bool
is_live p = not (is_done p.send_state || is_done p.receive_state)

-- The wires lead from earlier to later ones of so many nodes, and each node's inputs and ports are numbered from 0 on.
pub record IsWired (nodes : ℕ) (ws : List Wire) : Type 0 where
  pub forward : (p : Wire) → Contains ws p → (p.sender < p.receiver) × (p.receiver < nodes)
  pub inputs : (n : ℕ) → map (λ (p : Wire). p.input) (wires_in n ws) ≡ below (length (wires_in n ws))
  pub ports : (n : ℕ) → map (λ (p : Wire). p.port) (wires_out n ws) ≡ below (length (wires_out n ws))
