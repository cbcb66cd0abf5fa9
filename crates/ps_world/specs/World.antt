-- The world of a run: the nodes with what they have behind them, the pipes with all that they ever got, and the pieces out.
use Rattle.std.specs.Prelude.{◌≡◌, ℕ, ◌+◌, ◌-◌, Bool, false, not, cond, ◌&&◌, ◌||◌, List, [], ◌∷◌, ◌++◌, map, length, Option, Some, None, nat_eq, nat_lt, slice_get, drop, is_some, IsTrue}
use Rattle.std.specs.List.{list_any, list_all, count_by, filter as kept}
use Rattle.ps_frame.specs.Causes.{Cause, is_empty}
use Rattle.ps_frame.specs.Sorting.{in_order}
use Rattle.ps_frame.specs.Tables.{Fields, Row}
use Rattle.ps_ports.specs.Ports.{is_done}
use Rattle.ps_ports.specs.Wires.{Wire}
use Rattle.ps_turns.specs.Heads.{Head, heads_by, stored_inputs}
use Rattle.ps_turns.specs.Progress.{Progress, is_multiplexer}
use Rattle.ps_turns.specs.Tasks.{Handed, Piece}
use Rattle.ps_options.specs.declared.options.Options.{Options}
use Rattle.ps_meaning.specs.Shape.{PhysicalKind, PhysicalNode, Shape, zip_node}
use Rattle.ps_meaning.specs.Sound.{input_schemas}

-- A pipe keeps all that it ever got: at place k what came under the number k, or nothing where that number is claimed and not handed in yet.
-- What waits in it stands from the next number on. It is unread where its reader was done before its sender.
pub record Pipe : Type 0 where
  pub wire : Wire
  pub got : List (Option (List Row))
  pub next : ℕ
  pub in_phase : Bool
  pub is_closed : Bool
  pub is_dropped : Bool
  pub is_unread : Bool

pub record Node : Type 0 where
  pub node : PhysicalNode
  pub progress : Progress
  pub in_phase : Bool
  pub is_closed : Bool

pub data Record : Type 0 where
  opened : (phase : ℕ) → Record
  claimed : (node input number worker : ℕ) → Record
  handed_in : (node input number worker : ℕ) → Handed → Record
  pulled : (node input number : ℕ) → Record
  closed : (node : ℕ) → Record
  ended : (phase : ℕ) → Record

pub data Ending : Type 0 where
  running : Ending
  finished : Ending
  faulty : Cause → Ending

pub record World : Type 0 where
  pub options : Options
  pub nodes : List Node
  pub pipes : List Pipe
  pub outs : List Piece
  pub phase : ℕ
  pub is_open : Bool
  pub journal : List Record
  pub ending : Ending

-- the shape that the world's graph shows, and its wires
abbrev pub shape_of : World → Shape
shape_of w = map (λ (n : Node). n.node) w.nodes

abbrev pub wires_of : World → List Wire
wires_of w = map (λ (p : Pipe). p.wire) w.pipes

-- the schemas of a node's inputs
abbrev pub schemas_for : World → Node → List Fields
schemas_for w node = input_schemas (shape_of w) node.node

-- what came under a number
abbrev pub flat : Option (Option (List Row)) → Option (List Row)
flat None = None
flat (Some slot) = slot

abbrev pub morsel_at : ℕ → List (Option (List Row)) → Option (List Row)
morsel_at k slots = flat (slice_get slots k)

-- the rows of the numbers from 0 on, as far as they go without a gap
abbrev pub rows_in_order : List (Option (List Row)) → List Row
rows_in_order [] = []
rows_in_order (None ∷ slots) = []
rows_in_order (Some rs ∷ slots) = rs ++ rows_in_order slots

-- morsels that wait; a dropped pipe has lost its own
abbrev pub waiting : Pipe → ℕ
waiting p = cond p.is_dropped 0 (count_by (λ (slot : Option (List Row)). is_some slot) (drop p.next p.got))

-- nothing waits in it and nothing is to come of what was claimed
abbrev pub is_drained : Pipe → Bool
is_drained p = p.is_dropped || nat_eq (length p.got - p.next) 0

-- there is a next morsel
abbrev pub has_next : Pipe → Bool
has_next p = not p.is_dropped && is_some (morsel_at p.next p.got)

-- a dropped pipe counts as closed and empty
abbrev pub is_over : Pipe → Bool
is_over p = p.is_dropped || (p.is_closed && nat_eq (waiting p) 0)

abbrev pub multiplexes : Option Node → Bool
multiplexes None = false
multiplexes (Some n) = is_multiplexer n.node.kind

-- there is no bound where a pipe leaves a multiplexer
abbrev pub is_bounded : World → Pipe → Bool
is_bounded w p = not (multiplexes (slice_get w.nodes p.wire.sender))

abbrev pub room : World → ℕ
room w = w.options.workers + 4

-- the pipes out of a node, in the order of its ports, and into it, in the order of its inputs
abbrev pub pipes_out : World → ℕ → List Pipe
pipes_out w n = in_order (λ (p q : Pipe). nat_lt p.wire.port q.wire.port) (kept (λ (p : Pipe). nat_eq p.wire.sender n) w.pipes)

abbrev pub pipes_in : World → ℕ → List Pipe
pipes_in w n = in_order (λ (p q : Pipe). nat_lt p.wire.input q.wire.input) (kept (λ (p : Pipe). nat_eq p.wire.receiver n) w.pipes)

-- what counts as a pipe of the phase for its sender: those of the phase, and a multiplexer's until their reader is done
abbrev pub counts_for_sender : World → Pipe → Bool
counts_for_sender w p = p.in_phase || (multiplexes (slice_get w.nodes p.wire.sender) && not (is_done p.wire.receive_state))

abbrev pub live_outs : World → ℕ → List Pipe
live_outs w n = kept (counts_for_sender w) (pipes_out w n)

-- the node stands in the open phase and isn't closed
abbrev pub IsWorking : World → ℕ → Type 0
IsWorking w n = (node : Node) × (slice_get w.nodes n ≡ Some node) × IsTrue (w.is_open && (node.in_phase && not node.is_closed))

-- all its outgoing pipes of the phase are dropped, and it has one
abbrev pub is_cut_off : World → ℕ → Bool
is_cut_off w n = not (is_empty (live_outs w n)) && list_all (λ (p : Pipe). p.is_dropped) (live_outs w n)

-- the pieces of a node that are out
abbrev pub pieces_of : World → ℕ → List Piece
pieces_of w n = kept (λ (p : Piece). nat_eq p.node n) w.outs

-- whether a node's claims take a place in a pipe that leaves it
abbrev pub bounded_out : World → ℕ → Pipe → Bool
bounded_out w n p = nat_eq p.wire.sender n && (p.in_phase && (is_bounded w p && not p.is_dropped))

abbrev pub gives_on : World → ℕ → Bool
gives_on w n = list_any (bounded_out w n) w.pipes

-- The places that are taken: those of morsels that wait or are to come, and those that the reader's pieces keep where it gives nothing on.
abbrev pub places_taken : World → Pipe → ℕ
places_taken w p = (length p.got - p.next) + cond (gives_on w p.wire.receiver) 0 (count_by (λ (q : Piece). nat_eq q.node p.wire.receiver && nat_eq q.input p.wire.input) w.outs)

-- it has a place to spare, or needs none
abbrev pub has_place : World → Pipe → Bool
has_place w p = p.is_dropped || (not (is_bounded w p) || nat_lt (places_taken w p) (room w))

-- morsels in bounded pipes and pieces out
abbrev pub sum_waiting : World → List Pipe → ℕ
sum_waiting w [] = 0
sum_waiting w (p ∷ ps) = cond (is_bounded w p) (waiting p) 0 + sum_waiting w ps

abbrev pub in_flight : World → ℕ
in_flight w = sum_waiting w w.pipes + length w.outs

-- which inputs of a node are done
abbrev pub inputs_done : World → ℕ → List Bool
inputs_done w n = map (λ (p : Pipe). is_done p.wire.send_state) (pipes_in w n)

-- the heads of a zip, of another node none
abbrev pub heads_of : World → ℕ → Node → List Head
heads_of w n node = by_kind node.node.kind
  where
    by_kind : PhysicalKind → List Head
    by_kind (zip_node extend) = heads_by extend node.progress.booked (stored_inputs (inputs_done w n) node.progress.stores)
    by_kind _ = []
