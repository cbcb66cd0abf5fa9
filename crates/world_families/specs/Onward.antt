-- Nodes that hand on: those that answer morsel by morsel, and multiplexers.
use Rattle.std.specs.Prelude.{◌≡◌, ℕ, ◌||◌, List, [], length, take, Some, get_or, slice_get, Contains, IsFalse}
use Rattle.ps_frame.specs.Functions.{Functions}
use Rattle.ps_frame.specs.Tables.{Row}
use Rattle.ps_ports.specs.Ports.{is_done}
use Rattle.ps_turns.specs.Claims.{passes}
use Rattle.ps_turns.specs.Tasks.{Piece}
use Rattle.ps_world.specs.Booking.{HasBooked, HoldsAfter}
use Rattle.ps_world.specs.Keeping.{IsFrontOf}
use Rattle.ps_world.specs.Laws.{sent_by}
use Rattle.ps_world.specs.World.{Node, Pipe, World, rows_in_order, schemas_for}
use Rattle.world_families.specs.Work.{Enters, Leaves, asked_by, rows_read, work_of}

-- a piece is the claim of a morsel, behind the rows of the morsels before
abbrev pub IsMorselWork : World → ℕ → Node → Piece → Type 0
IsMorselWork w n node x =
    (q : Pipe) × (rs : List Row) × Enters w n q × (slice_get q.got x.gives ≡ Some (Some rs))
    × (work_of x ≡ asked_by (passes w.options node.node (schemas_for w node) node.node.kind (record node.progress { booked = length (rows_in_order (take x.gives q.got)) }) x.gives rs))

pub record HoldsPassing (F : Functions) (w : World) (n : ℕ) (node : Node) : Type 0 where
  pub answers : (q p : Pipe) → Enters w n q → Leaves w n p → HoldsAfter F node.node (get_or (schemas_for w node) 0 []) q p
  pub booked : (q : Pipe) → Enters w n q → HasBooked node.node.kind node.progress (length (rows_read q))
  pub pieces : (x : Piece) → Contains w.outs x → x.node ≡ n → IsMorselWork w n node x

-- A multiplexer's ports: each got a front of what came, and one that is open all that was read.
pub record HoldsPorts (w : World) (n : ℕ) : Type 0 where
  pub fronts : (p q : Pipe) → Leaves w n p → Enters w n q → IsFrontOf (sent_by p) (sent_by q)
  pub open_ports : (p q : Pipe) → Leaves w n p → Enters w n q → IsFalse (is_done p.wire.receive_state || p.is_dropped) → p.got ≡ take q.next q.got
