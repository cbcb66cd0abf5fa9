-- What a node is to do for a number, and what came of it.
use Rattle.std.specs.Prelude.{◌≡◌, ℕ, ◌⊎◌, ◌||◌, List, map, length, take, Some, slice_get, Contains, IsTrue}
use Rattle.ps_frame.specs.Functions.{Functions}
use Rattle.ps_frame.specs.Tables.{Fields, Row}
use Rattle.ps_ports.specs.Ports.{is_done}
use Rattle.ps_turns.specs.Claims.{Claim}
use Rattle.ps_turns.specs.Results.{IsResultOf}
use Rattle.ps_turns.specs.Tables.{whole_tables}
use Rattle.ps_turns.specs.Tasks.{Piece, Task, good}
use Rattle.ps_world.specs.Facts.{HasNoUse}
use Rattle.ps_world.specs.Laws.{sent_by}
use Rattle.ps_world.specs.World.{Pipe, World, pipes_in, rows_in_order}

-- what is done with which tables
pub record Work : Type 0 where
  pub task : Task
  pub schemas : List Fields
  pub tables : List (List Row)

-- the work of a piece that is out, and that for which a claim asks
abbrev pub work_of : Piece → Work
work_of q = record { task = q.task; schemas = q.schemas; tables = q.tables }

abbrev pub asked_by : Claim → Work
asked_by c = record { task = c.task; schemas = c.schemas; tables = c.tables }

-- rows that may be handed in for it
abbrev pub Answers : Functions → Work → List Row → Type 0
Answers F x rs = IsResultOf F x.task 0 (whole_tables x.schemas x.tables) x.tables (good rs)

-- a pipe of a world that leaves a node, and one that leads to it
abbrev pub Leaves : World → ℕ → Pipe → Type 0
Leaves w n p = Contains w.pipes p × (p.wire.sender ≡ n)

abbrev pub Enters : World → ℕ → Pipe → Type 0
Enters w n q = Contains w.pipes q × (q.wire.receiver ≡ n)

-- all that a pipe will ever get has come
abbrev pub IsComplete : Pipe → Type 0
IsComplete p = IsTrue (sent_by p).is_complete

abbrev pub AllComplete : World → ℕ → Type 0
AllComplete w n = (q : Pipe) → Enters w n q → IsComplete q

-- the rows that the reader of a pipe took, in order
abbrev pub rows_read : Pipe → List Row
rows_read q = rows_in_order (take q.next q.got)

-- the rows that came to a node, input by input
abbrev pub rows_received : World → ℕ → List (List Row)
rows_received w n = map (λ (q : Pipe). rows_in_order q.got) (pipes_in w n)

-- Of the pipes of any node: an input that it is done with was read to its end, or the node has no use for more; a complete input was read to its end; an output whose reader was done first is unread.
pub record PipesHold (w : World) (n : ℕ) : Type 0 where
  pub done : (q : Pipe) → Enters w n q → IsTrue (is_done q.wire.receive_state) → IsComplete q ⊎ HasNoUse w n
  pub read : (q : Pipe) → Enters w n q → IsComplete q → q.next ≡ length q.got
  pub unread : (p : Pipe) → Leaves w n p → IsTrue (is_done p.wire.receive_state) → IsTrue (is_done p.wire.send_state || p.is_unread)

-- Of a node that does the work of each of its numbers: what came under a number is an answer to its work; a piece that is out is the work of its number, or keeps what it takes; and an output is complete only where all was given.
pub record Gives (F : Functions) (w : World) (n : ℕ) (IsWorkFor : ℕ → Work → Type 0) (IsKept : Piece → Type 0) (AllGiven : Type 0) : Type 0 where
  pub answers : (p : Pipe) (k : ℕ) (rs : List Row) → Leaves w n p → slice_get p.got k ≡ Some (Some rs) → (x : Work) × IsWorkFor k x × Answers F x rs
  pub pieces : (q : Piece) → Contains w.outs q → q.node ≡ n → IsWorkFor q.gives (work_of q) ⊎ IsKept q
  pub completes : (p : Pipe) → Leaves w n p → IsComplete p → AllGiven
