-- What a claim of a node fits in a world, whatever the node's kind.
use Rattle.std.specs.Prelude.{◌≡◌, ℕ, [], length, Some, None, get_or, slice_get, Contains, IsTrue, IsFalse}
use Rattle.ps_ports.specs.Ports.{is_done}
use Rattle.ps_turns.specs.Claims.{Claim}
use Rattle.ps_world.specs.Claims.{claim_at}
use Rattle.ps_world.specs.Facts.{is_filled_by, is_over_slice, keeps_one}
use Rattle.ps_world.specs.Pipes.{is_input}
use Rattle.ps_world.specs.World.{Node, Pipe, World, bounded_out, has_next, multiplexes}

-- What a claim of a node fits, whatever its kind: the number of its answer is that of the next place in each pipe out of the node that counts, or that of the next slot of what the node keeps.
pub record Fits (w : World) (n i : ℕ) (node : Node) (c : Claim) : Type 0 where
  pub single : IsFalse (multiplexes (slice_get w.nodes n))
  pub over : IsTrue (is_over_slice node.node.kind node.progress.booked) → IsTrue (is_over_slice node.node.kind c.progress.booked)
  pub numbered : IsFalse (keeps_one c.task) → (p : Pipe) → is_filled_by w n p → length p.got ≡ c.gives
  pub slot : IsTrue (keeps_one c.task) → slice_get (get_or c.progress.taken i []) c.number ≡ Some None
  pub new_slot : IsTrue (keeps_one c.task) → slice_get (get_or node.progress.taken i []) c.number ≡ None
  pub slots : (j k : ℕ) → slice_get (get_or node.progress.taken j []) k ≡ Some None → slice_get (get_or c.progress.taken j []) k ≡ Some None
  -- what keeps its morsels has no output in the phase
  pub no_output : IsTrue (keeps_one c.task) → (p : Pipe) → Contains w.pipes p → IsFalse (bounded_out w n p)

-- What a claim takes is the next morsel of a pipe of the phase, and an input that it drops is that of a slice that has booked all its rows.
pub record FitsWhole (w : World) (n i : ℕ) (node : Node) (c : Claim) : Type 0 where
  pub fits : Fits w n i node c
  pub takes : IsTrue c.takes_morsel → (p : Pipe) × Contains w.pipes p × IsTrue (is_input n i p) × IsTrue p.in_phase × IsTrue (has_next p)
  pub drops : IsTrue c.drops_input → IsTrue (is_over_slice node.node.kind c.progress.booked)

-- every claim that a node of the world has
abbrev pub ClaimsFit : World → ℕ → ℕ → Type 0
ClaimsFit w n i = (node : Node) (c : Claim) → slice_get w.nodes n ≡ Some node → claim_at w n i node ≡ Some c → FitsWhole w n i node c

-- what is dropped is done at its reader
abbrev pub DropsAreDone : World → Type 0
DropsAreDone w = (p : Pipe) → Contains w.pipes p → IsTrue p.is_dropped → IsTrue (is_done p.wire.receive_state)
