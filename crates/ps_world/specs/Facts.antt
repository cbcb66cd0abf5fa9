-- What every reached world keeps, whatever its nodes do: of its wires, its pipes, its pieces and its phase.
use Rattle.std.specs.Prelude.{◌≡◌, ℕ, ◌<◌, ◌≤◌, ◌⊎◌, Bool, not, ◌&&◌, ◌||◌, List, [], map, length, Option, Some, None, get_or, slice_get, Contains, IsTrue, IsFalse}
use Rattle.std.specs.List.{AllByRecursion}
use Rattle.ps_frame.specs.Functions.{Functions}
use Rattle.ps_frame.specs.Tables.{Row}
use Rattle.ps_ports.specs.Ports.{is_done}
use Rattle.ps_ports.specs.Wires.{both_ready}
use Rattle.ps_turns.specs.Tasks.{Piece, Task, keeps}
use Rattle.ps_meaning.specs.Shape.{PhysicalKind, streaming_slice}
use Rattle.ps_meaning.specs.Sound.{IsSound}
use Rattle.ps_turns.specs.Updates.{slice_is_over}
use Rattle.ps_world.specs.Opening.{pipes_from}
use Rattle.ps_world.specs.World.{IsWorking, Node, Pipe, World, counts_for_sender, is_bounded, is_cut_off, is_drained, multiplexes, running, shape_of}

-- the ports that a pipe joins
pub record Joins : Type 0 where
  pub sender : ℕ
  pub port : ℕ
  pub receiver : ℕ
  pub input : ℕ

abbrev pub joins_of : Pipe → Joins
joins_of p = record { sender = p.wire.sender; port = p.wire.port; receiver = p.wire.receiver; input = p.wire.input }

abbrev pub keeps_one : Task → Bool
keeps_one (keeps p) = Bool.true
keeps_one _ = Bool.false

-- what a node took of an input in order to keep it
abbrev pub slots_of : Option Node → ℕ → List (Option (List Row))
slots_of None i = []
slots_of (Some node) i = get_or node.progress.taken i []

-- what an answer of the node goes into
abbrev pub is_filled_by : World → ℕ → Pipe → Type 0
is_filled_by w n p = Contains w.pipes p × (p.wire.sender ≡ n) × IsTrue (counts_for_sender w p && not p.is_dropped)

-- a number that a piece will fill: in what its node took, or in each outgoing pipe that isn't dropped
abbrev pub IsExpected : World → Piece → Type 0
IsExpected w q =
    (IsTrue (keeps_one q.task) → slice_get (slots_of (slice_get w.nodes q.node) q.input) q.number ≡ Some None)
    × (IsFalse (keeps_one q.task) → (p : Pipe) → is_filled_by w q.node p → slice_get p.got q.gives ≡ Some None)

-- why a pipe is dropped: its reader is a slice that has booked all its rows, or something leaves the reader, and all of that is dropped or has a reader that is done
abbrev pub is_over_slice : PhysicalKind → (booked : ℕ) → Bool
is_over_slice (streaming_slice offset n) booked = slice_is_over offset n booked
is_over_slice _ booked = Bool.false

abbrev pub HasNoUse : World → ℕ → Type 0
HasNoUse w n =
    ((node : Node) × (slice_get w.nodes n ≡ Some node) × IsTrue (is_over_slice node.node.kind node.progress.booked))
    ⊎ (z : Pipe) × Contains w.pipes z × (z.wire.sender ≡ n) × ((q : Pipe) → Contains w.pipes q → q.wire.sender ≡ n → IsTrue (q.is_dropped || is_done q.wire.receive_state))

-- a piece out that will fill this number of what leaves its node
abbrev pub IsAwaited : World → ℕ → ℕ → Type 0
IsAwaited w n k = (q : Piece) × Contains w.outs q × (q.node ≡ n) × (q.gives ≡ k) × IsFalse (keeps_one q.task)

pub record PipeFacts (w : World) (p : Pipe) : Type 0 where
  -- what was taken had come
  pub taken : p.next ≤ length p.got
  pub came : (k : ℕ) → k < p.next → (rs : List Row) × (slice_get p.got k ≡ Some (Some rs))
  -- a number that hasn't come is that of a piece out, unless the pipe is dropped or a fault ended the run
  pub expected : w.ending ≡ running → (k : ℕ) → slice_get p.got k ≡ Some None → IsTrue p.is_dropped ⊎ IsTrue p.in_phase × IsAwaited w p.wire.sender k
  -- a pipe of the phase is ready on both ends, and so are its nodes at hand
  pub at_hand : IsTrue p.in_phase → IsTrue (both_ready p.wire) × IsTrue w.is_open
  -- it is closed exactly where its sender is
  pub closed_with_sender : IsTrue p.in_phase → IsFalse p.is_closed → IsWorking w p.wire.sender
  pub closed_by_sender : IsTrue p.is_closed → ¬ IsWorking w p.wire.sender
  pub closed_in_phase : IsTrue p.is_closed → IsTrue p.in_phase
  -- a reader of the phase that is closed has nothing left in the pipe, and nothing to come
  pub read_to_end : IsTrue p.in_phase → IsFalse (p.is_dropped || (p.is_closed && is_drained p)) → IsWorking w p.wire.receiver
  -- nothing waits in a bounded pipe that isn't of the phase
  pub drained : IsFalse p.in_phase → IsTrue (is_bounded w p) → IsTrue (is_drained p)
  pub unread_done : IsTrue p.is_unread → IsTrue (is_done p.wire.receive_state)
  pub why_dropped : IsTrue p.is_dropped → HasNoUse w p.wire.receiver

-- Where all that leaves a node from k on is dropped, so are its inputs: a claim's drops bring this down to 0.
pub record FactsDownTo (F : Functions) (k : ℕ) (w : World) : Type 0 where
  pub sound : IsSound F (shape_of w)
  -- the pipes are those of the shape, in its order
  pub wires : map joins_of w.pipes ≡ map joins_of (pipes_from (shape_of w) 0)
  -- an input has one pipe, and a node that is no multiplexer at most one output
  pub one_input : (p q : Pipe) → Contains w.pipes p → Contains w.pipes q → p.wire.receiver ≡ q.wire.receiver → p.wire.input ≡ q.wire.input → p ≡ q
  pub one_output : (p q : Pipe) → Contains w.pipes p → Contains w.pipes q → p.wire.sender ≡ q.wire.sender → IsFalse (multiplexes (slice_get w.nodes p.wire.sender)) → p ≡ q
  -- each piece has a worker of its own and a node at work, and is expected
  pub workers : (q : Piece) → Contains w.outs q → q.worker < w.options.workers
  pub own_workers : (i j : ℕ) (q r : Piece) → slice_get w.outs i ≡ Some q → slice_get w.outs j ≡ Some r → q.worker ≡ r.worker → i ≡ j
  pub at_work : (q : Piece) → Contains w.outs q → IsWorking w q.node
  pub expected : (q : Piece) → Contains w.outs q → IsExpected w q
  -- no two pieces fill the same number
  pub own_numbers : (q r : Piece) (p : Pipe) → Contains w.outs q → Contains w.outs r → IsFalse (keeps_one q.task) → IsFalse (keeps_one r.task) → q.node ≡ r.node → q.gives ≡ r.gives → is_filled_by w q.node p → q.worker ≡ r.worker
  pub own_slots : (q r : Piece) → Contains w.outs q → Contains w.outs r → IsTrue (keeps_one q.task) → IsTrue (keeps_one r.task) → q.node ≡ r.node → q.input ≡ r.input → q.number ≡ r.number → q.worker ≡ r.worker
  pub pipes : (p : Pipe) → Contains w.pipes p → PipeFacts w p
  pub cut_off : (p : Pipe) → Contains w.pipes p → k ≤ p.wire.receiver → IsTrue p.in_phase → IsTrue (is_cut_off w p.wire.receiver) → IsTrue p.is_dropped
  -- between phases no node and no pipe has a mark of one
  pub no_marks : IsFalse w.is_open → AllByRecursion (λ (n : Node). IsFalse (n.in_phase || n.is_closed)) w.nodes × AllByRecursion (λ (p : Pipe). IsFalse (p.in_phase || p.is_closed)) w.pipes

abbrev pub Facts : Functions → World → Type 0
Facts F w = FactsDownTo F 0 w
