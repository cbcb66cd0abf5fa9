-- Which pieces workers have of those that are out.
use Rattle.std.specs.Prelude.{◌≡◌, ◌≢◌, ℕ, false, List, Option, Some, None, Contains, slice_get}
use Rattle.ps_frame.specs.Functions.{Functions}
use Rattle.ps_meaning.specs.Shape.{PhysicalNode, Shape}
use Rattle.ps_turns.specs.Tasks.{Piece}
use Rattle.ps_world.specs.Facts.{keeps_one}
use Rattle.ps_world.specs.World.{World}

module _ {P : Type 0} (Shows : Piece → P → Type 0) (IsFor : Functions → PhysicalNode → P → Type 0) where
  -- A worker has this piece: it is out with that worker, its answer goes on in a pipe, and it may be computed.
  pub record HasPiece (F : Functions) (shape : Shape) (w : World) (k : ℕ) (piece : P) : Type 0 where
    pub out : Piece
    pub node : PhysicalNode
    pub is_out : Contains w.outs out
    pub worker : out.worker ≡ k
    pub shows : Shows out piece
    pub there : slice_get shape out.node ≡ Some node
    pub suits : IsFor F node piece
    pub goes_on : keeps_one out.task ≡ false

  -- what a worker has; one that has no piece has none out
  abbrev pub IsHeldBy : Functions → Shape → World → (worker : ℕ) → Option P → Type 0
  IsHeldBy F shape w k None = (q : Piece) → Contains w.outs q → q.worker ≢ k
  IsHeldBy F shape w k (Some piece) = HasPiece F shape w k piece

  -- each worker has what it has out
  abbrev pub AreHeld : Functions → Shape → World → List (Option P) → Type 0
  AreHeld F shape w pieces = (k : ℕ) (piece : Option P) → slice_get pieces k ≡ Some piece → IsHeldBy F shape w k piece
