-- The two ends of a pipe, and what a node's answer writes to its own.
use Rattle.std.specs.Prelude.{◌≡◌, ◌≢◌, ℕ, ◌<◌, ◌⊎◌, Bool, false, List, Option, Some, length, get_or, IsTrue}
use Rattle.keyed_slots.specs.Slots.{value_at}
use Rattle.ps_ports.specs.declared.port_state.PortState.{PortState}
use Rattle.ps_ports.specs.Phases.{is_one_of}
use Rattle.ps_ports.specs.Ports.{kept_state}
use Rattle.ps_graph.specs.declared.end.End.{End}
use Rattle.ps_graph.specs.declared.end.End.TheVariants as at
use Rattle.ps_graph.specs.declared.graph.LogicalPipe.{LogicalPipe}

-- what the node at an end says, and the one at the other end
abbrev pub own_state : End → LogicalPipe → PortState
own_state at.Sender p = p.send_state
own_state at.Receiver p = p.recv_state

abbrev pub other_state : End → LogicalPipe → PortState
other_state at.Sender p = p.recv_state
other_state at.Receiver p = p.send_state

-- the port of the node at an end
abbrev pub place_at : End → LogicalPipe → ℕ
place_at at.Sender p = p.send_port
place_at at.Receiver p = p.recv_port

-- the node at the other end
abbrev pub other_node : End → LogicalPipe → ℕ
other_node at.Sender p = p.receiver.0
other_node at.Receiver p = p.sender.0

abbrev pub with_own : End → PortState → LogicalPipe → LogicalPipe
with_own at.Sender s p = record p { send_state = s }
with_own at.Receiver s p = record p { recv_state = s }

-- the pipe as the answer of the node at an end leaves it
abbrev pub says : End → List PortState → LogicalPipe → LogicalPipe
says end states p = with_own end (kept_state (own_state end p) (get_or states (place_at end p) (own_state end p))) p

-- each of these numbers is that of a pipe, which is at one of so many ports
abbrev pub AreAt : End → (ports : ℕ) → List ℕ → List (Option LogicalPipe) → Type 0
AreAt end ports ks slots = (k : ℕ) → IsTrue (is_one_of k ks) → (p : LogicalPipe) × (value_at slots k ≡ Some p) × (place_at end p < ports)

-- the node at the other end of a pipe is marked if an answer says something else to it, and no one else
pub record TellsOne (end : End) (states : List PortState) (p : LogicalPipe) (old new : ℕ → Bool) : Type 0 where
  pub kept : (n : ℕ) → IsTrue (old n) → IsTrue (new n)
  pub told : (own_state end (says end states p) ≡ own_state end p) ⊎ IsTrue (new (other_node end p))
  pub only : (n : ℕ) → IsTrue (new n) → IsTrue (old n) ⊎ ((other_node end p ≡ n) × (own_state end (says end states p) ≢ own_state end p))

-- an answer is written to the pipes with these numbers, and those at their other ends are told
pub record Told (end : End) (states : List PortState) (ks : List ℕ) (slots slots' : List (Option LogicalPipe)) (old new : ℕ → Bool) : Type 0 where
  pub others : (k : ℕ) → is_one_of k ks ≡ false → value_at slots' k ≡ value_at slots k
  pub written : (k : ℕ) (p : LogicalPipe) → IsTrue (is_one_of k ks) → value_at slots k ≡ Some p → value_at slots' k ≡ Some (says end states p)
  pub long : length slots' ≡ length slots
  pub kept : (n : ℕ) → IsTrue (old n) → IsTrue (new n)
  pub told : (k : ℕ) (p : LogicalPipe) → IsTrue (is_one_of k ks) → value_at slots k ≡ Some p → (own_state end (says end states p) ≡ own_state end p) ⊎ IsTrue (new (other_node end p))
  pub only : (n : ℕ) → IsTrue (new n) → IsTrue (old n) ⊎ ((k : ℕ) × (p : LogicalPipe) × IsTrue (is_one_of k ks) × (value_at slots k ≡ Some p) × (other_node end p ≡ n) × (own_state end (says end states p) ≢ own_state end p))
