-- What a world keeps of a passing node: it booked the rows that it took, what it sent are answers to them, and its pieces will be.
use Rattle.std.proofs.Common.{◌≡◌, ℕ, false, List, [], ◌∷◌, length, take, Some, sym, ap, subst, ◌∙◌}
use Rattle.std.specs.Prelude.{Contains, map, slice_get}
use Rattle.ps_frame.specs.Functions.{Functions}
use Rattle.ps_frame.specs.Tables.{Fields, Row}
use Rattle.ps_meaning.specs.Shape.{PhysicalKind, PhysicalNode, streaming_slice, with_row_index}
use Rattle.ps_options.specs.declared.options.Options.{Options}
use Rattle.ps_turns.specs.Claims.{passes}
use Rattle.ps_turns.specs.Progress.{Progress}
use Rattle.ps_turns.specs.Tasks.{Piece}
use Rattle.ps_world.specs.Booking.{GivesAfter, HasBooked, PassesAfter, StandsAt}
use Rattle.ps_world.specs.Claims.{piece_of}
use Rattle.ps_world.specs.Facts.{Joins, joins_of}
use Rattle.ps_world.specs.World.{Node, Pipe, World, rows_in_order}
use Rattle.world_laws.proofs.Agree.{from_map}
use Rattle.passing_runs.proofs.Slots.{Fills, passes_on, stands_on}

-- how many rows were taken of a pipe
abbrev pub taken_rows : Pipe → ℕ
taken_rows p = length (rows_in_order (take p.next p.got))

-- The piece was claimed for a morsel that stands in the pipe, where the node had booked the rows before it.
pub record PieceStands (p : PhysicalNode) (s : Fields) (n : ℕ) (from : Pipe) (q : Piece) : Type 0 where
  pub options : Options
  pub input : ℕ
  pub worker : ℕ
  pub front : List Row
  pub rows : List Row
  pub progress : Progress
  pub stands : StandsAt from.got q.gives front rows
  pub booked : HasBooked p.kind progress (length front)
  pub claimed : q ≡ piece_of n input worker (passes options p (s ∷ []) p.kind progress q.gives rows)

module _ (F : Functions) (n : ℕ) (p : PhysicalNode) (s : Fields) where
  pub record Passing (w : World) (node : Node) (from to : Pipe) : Type 0 where
    pub booked : HasBooked p.kind node.progress (taken_rows from)
    pub answers : to.is_dropped ≡ false → PassesAfter (GivesAfter F p s) 0 from.got to.got
    pub pieces : (q : Piece) → Contains w.outs q → q.node ≡ n → PieceStands p s n from q

  abbrev pub AllPassing : World → Type 0
  AllPassing w = (node : Node) (from to : Pipe) → slice_get w.nodes n ≡ Some node → Contains w.pipes from → from.wire.receiver ≡ n → Contains w.pipes to → to.wire.sender ≡ n → Passing w node from to

  -- through a change of the pipes
  pub through : (w v : World) (g : Pipe → Pipe) → v.pipes ≡ map g w.pipes → ((x : Pipe) → joins_of (g x) ≡ joins_of x)
      → ((node : Node) (from to : Pipe) → slice_get v.nodes n ≡ Some node → Contains w.pipes from → from.wire.receiver ≡ n → Contains w.pipes to → to.wire.sender ≡ n → Passing v node (g from) (g to)) → AllPassing v
  through w v g pipes joins h node from to at cf rf ct st =
      let x = from_map g from w.pipes (subst (λ ps. Contains ps from) pipes cf) in
      let y = from_map g to w.pipes (subst (λ ps. Contains ps to) pipes ct) in
      let rx = sym (ap (λ (j : Joins). j.receiver) (joins x.0)) ∙ ap (λ (z : Pipe). z.wire.receiver) x.2 ∙ rf in
      let sy = sym (ap (λ (j : Joins). j.sender) (joins y.0)) ∙ ap (λ (z : Pipe). z.wire.sender) y.2 ∙ st in
      subst (λ z. Passing v node z to) x.2 (subst (λ z. Passing v node (g x.0) z) y.2 (h node x.0 y.0 at x.1 rx y.1 sy))

pub booked_same : (kind : PhysicalKind) (a b : Progress) (k l : ℕ) → b.booked ≡ a.booked → l ≡ k → HasBooked kind a k → HasBooked kind b l
booked_same (with_row_index name offset) a b k l e same h = e ∙ h ∙ sym same
booked_same (streaming_slice offset m) a b k l e same h = e ∙ h ∙ sym same
booked_same kind a b k l e same h = tt

pub piece_on : (p : PhysicalNode) (s : Fields) (n : ℕ) (from new : Pipe) (q : Piece) → Fills from.got new.got → PieceStands p s n from q → PieceStands p s n new q
piece_on p s n from new q f h =
    record { options = h.options; input = h.input; worker = h.worker; front = h.front; rows = h.rows; progress = h.progress; stands = stands_on from.got new.got q.gives h.front h.rows f h.stands; booked = h.booked; claimed = h.claimed }

-- a node that does nothing, while what comes to it may grow
pub quiet : (F : Functions) (n : ℕ) (p : PhysicalNode) (s : Fields) (w v : World) (node new : Node) (from to from' to' : Pipe) → new.progress.booked ≡ node.progress.booked → Fills from.got from'.got → taken_rows from' ≡ taken_rows from → to'.got ≡ to.got
    → (to'.is_dropped ≡ false → to.is_dropped ≡ false) → ((q : Piece) → Contains v.outs q → q.node ≡ n → Contains w.outs q) → Passing F n p s w node from to → Passing F n p s v new from' to'
quiet F n p s w v node new from to from' to' booked fills taken got lost outs h =
    record {
      booked = booked_same p.kind node.progress new.progress (taken_rows from) (taken_rows from') booked taken h.booked;
      answers = λ d. subst (λ os. PassesAfter (GivesAfter F p s) 0 from'.got os) (sym got) (passes_on (GivesAfter F p s) 0 from.got from'.got to.got fills (h.answers (lost d)));
      pieces = λ q c e. piece_on p s n from from' q fills (h.pieces q (outs q c e) e);
    }
