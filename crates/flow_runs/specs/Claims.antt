-- The pieces that nodes of a run give out, and the nodes once these are claimed.
use Rattle.std.specs.Prelude.{◌≡◌, ℕ, ◌+◌, ◌<◌, ◌^◌, true, false, [], Option, None, Some, length, nat_le, ⊤}
use Rattle.node_work.specs.Tasks.{ComputesOver, kept_part, next_cut}
use Rattle.node_work.specs.declared.work.Work.{Work}
use Rattle.node_work.specs.declared.work.Work.TheVariants as work
use Rattle.plain_nodes.specs.declared.slice.StreamingSliceNode.{StreamingSliceNode}
use Rattle.plain_nodes.specs.declared.source.InMemorySourceNode.{InMemorySourceNode}
use Rattle.ps_flow.specs.declared.claim_node.Claimed.{Claimed}
use Rattle.ps_flow.specs.declared.claim_node.Seat.{Seat}
use Rattle.ps_frame.specs.Functions.{Functions}
use Rattle.ps_frame.specs.Lawful.{empty_frame}
use Rattle.ps_frame.specs.Tables.{Frame}
use Rattle.ps_meaning.specs.Cases.{end_of}
use Rattle.ps_meaning.specs.Shape.{PhysicalNode}
use Rattle.ps_nodes.specs.declared.flow.FlowNode.{FlowNode}
use Rattle.ps_nodes.specs.declared.flow.FlowNode.TheVariants as flow
use Rattle.ps_pieces.specs.Shown.{IsFit, schema_given}
use Rattle.ps_pieces.specs.declared.piece.Piece.{Piece}
use Rattle.ps_pieces.specs.declared.piece.Task.{Task}
use Rattle.ps_pieces.specs.declared.piece.Task.TheVariants as task
use Rattle.flow_runs.specs.declared.node.RunningNode.{RunningNode}

-- THE PIECE
abbrev pub piece_at : Seat → (number gives : ℕ) → Task → Piece
piece_at seat number gives t = record { node = seat.node; input = seat.input; number = number; worker = seat.worker; gives = gives; task = t }

-- one of a node's own, where the next morsel of the input has so many rows
abbrev pub own_piece : Seat → (number rows : ℕ) → Task → Claimed Piece
own_piece seat number rows t = record { piece = piece_at seat number number t; rows = rows; takes_morsel = false; drops_input = false }

-- one of a morsel of so many rows
abbrev pub morsel_piece : Seat → (number gives rows : ℕ) → Task → Claimed Piece
morsel_piece seat number gives rows t = record { piece = piece_at seat number gives t; rows = rows; takes_morsel = true; drops_input = false }

-- a source's: the next cut of its table
abbrev pub cut_piece : Seat → (rows : ℕ) → InMemorySourceNode → Claimed Piece
cut_piece seat rows s = own_piece seat s.sent rows (next_cut s)

-- a slice's: what it keeps of a morsel; with its last row it drops its input
abbrev pub slice_piece : Seat → (number : ℕ) → StreamingSliceNode → Frame → Claimed Piece
slice_piece seat number s m =
    record (morsel_piece seat number number (length m.rows) (kept_part s.state m)) { drops_input = nat_le (end_of s.state.offset s.state.length) (s.state.booked + length m.rows) }

-- it may be computed with these functions, and its rows are those of this node of a shape
abbrev pub IsPieceFor : Functions → PhysicalNode → Piece → Type 0
IsPieceFor F p piece = IsFit F piece.task × (schema_given piece.task ≡ p.schema)

-- what is found of a union: its next morsel, under a number of the union's own
abbrev pub FoundUnited : Work → Seat → (number : ℕ) → Option Frame → Option (Claimed Piece) → Type 0
FoundUnited (work.Unites sent) seat number (Some m) (Some y) = y ≡ morsel_piece seat number sent (length m.rows) (task.HandsOn m)
FoundUnited (work.Unites sent) seat number (Some m) None = ⊥
FoundUnited w seat number m None = ⊤
FoundUnited w seat number m (Some y) = ⊥

-- what is found over a morsel, where the node's parameters are computed over it, behind so many rows
abbrev pub FoundOver : Work → (before : ℕ) → Seat → (number : ℕ) → Option Frame → Option (Claimed Piece) → Type 0
FoundOver (work.Computes q) k seat number (Some m) (Some y) = (y ≡ morsel_piece seat number number (length m.rows) y.piece.task) × ComputesOver q.value k m y.piece.task
FoundOver (work.Computes q) k seat number (Some m) None = ⊥
FoundOver w k seat number m None = ⊤
FoundOver w k seat number m (Some y) = ⊥

-- what is found where the node's parameters are computed over no input
abbrev pub FoundAlone : Work → Seat → (rows : ℕ) → Option (Claimed Piece) → Type 0
FoundAlone (work.Computes q) seat rows (Some y) = (y ≡ own_piece seat 0 rows y.piece.task) × ComputesOver q.value 0 (empty_frame []) y.piece.task
FoundAlone (work.Computes q) seat rows None = ⊥
FoundAlone w seat rows None = ⊤
FoundAlone w seat rows (Some y) = ⊥

-- THE NODE
-- what counts claims or rows may count one more, of so many rows
abbrev pub CanGive : Work → Type 0
CanGive (work.Unites sent) = sent + 1 < 2 ^ 64
CanGive w = ⊤

abbrev pub CanCountIn : FlowNode → Work → (rows : ℕ) → Type 0
CanCountIn (flow.InMemorySource s) w rows = s.sent + 1 < 2 ^ 64
CanCountIn (flow.InputIndependentSelect s) w rows = s.sent + 1 < 2 ^ 64
CanCountIn (flow.StreamingSlice s) w rows = s.state.booked + rows < 2 ^ 64
CanCountIn (flow.WithRowIndex s) w rows = s.booked + rows < 2 ^ 64
CanCountIn (flow.OrderedUnion s) w rows = CanGive w
CanCountIn n w rows = ⊤

abbrev pub CanCount : RunningNode → (rows : ℕ) → Type 0
CanCount n rows = CanCountIn n.flow n.work rows

-- the node that counted it
abbrev pub given_once_more : Work → Work
given_once_more (work.Unites sent) = work.Unites (sent + 1)
given_once_more w = w

abbrev pub counted_in : FlowNode → Work → (rows : ℕ) → RunningNode
counted_in (flow.InMemorySource s) w rows = record { flow = flow.InMemorySource (record s { sent = s.sent + 1 }); work = w }
counted_in (flow.InputIndependentSelect s) w rows = record { flow = flow.InputIndependentSelect (record s { sent = s.sent + 1 }); work = w }
counted_in (flow.StreamingSlice s) w rows = record { flow = flow.StreamingSlice (record s { state = record s.state { booked = s.state.booked + rows } }); work = w }
counted_in (flow.WithRowIndex s) w rows = record { flow = flow.WithRowIndex (record s { booked = s.booked + rows }); work = w }
counted_in (flow.OrderedUnion s) w rows = record { flow = flow.OrderedUnion s; work = given_once_more w }
counted_in n w rows = record { flow = n; work = w }

abbrev pub counted : RunningNode → (rows : ℕ) → RunningNode
counted n rows = counted_in n.flow n.work rows
