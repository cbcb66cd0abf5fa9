-- Which world a run that is driven is at, which moves it may make, and what its answer is.
use Rattle.std.specs.Prelude.{◌≡◌, ℕ, List, Some, None, length, slice_get}
use Rattle.ps_flow.specs.Openings.{Tells}
use Rattle.ps_flow.specs.Standing.{Stands}
use Rattle.ps_frame.specs.Causes.{Cause}
use Rattle.ps_frame.specs.Functions.{Functions, IsLawful}
use Rattle.ps_frame.specs.Tables.{Frame, IsWhole, Table}
use Rattle.ps_frame.specs.declared.refusal.PolarsError.{PolarsError}
use Rattle.ps_frame.specs.declared.refusal.PolarsError.TheVariants as error
use Rattle.ps_meaning.specs.Errors.{cause_error}
use Rattle.ps_meaning.specs.Shape.{PhysicalMeans, PhysicalNode, Shape, in_memory_sink}
use Rattle.ps_meaning.specs.Sound.{IsSound}
use Rattle.ps_options.specs.declared.options.Options.{Options}
use Rattle.ps_turns.specs.Tasks.{Piece}
use Rattle.ps_world.specs.Opening.{Reaches}
use Rattle.ps_world.specs.Promises.{NamesCause}
use Rattle.ps_world.specs.Step.{Replays, Steps}
use Rattle.ps_world.specs.World.{Ending, Record, World, faulty, finished, handed_in, running}
use Rattle.turn_laws.specs.Updating.{SeenNode}
use Rattle.world_families.specs.Kinds.{IsStreaming}
use Rattle.world_records.specs.Shown.{IsEnabled, move_made}
use Rattle.world_records.specs.declared.records.Move.{Move}
use Rattle.worker_pieces.specs.Held.{AreHeld}
use Rattle.flow_driver.specs.declared.run.Run.{Run}

-- Lawful functions, and a sound shape whose nodes stream.
pub record CanBeDriven (F : Functions) (shape : Shape) : Type 0 where
  pub lawful : IsLawful F
  pub sound : IsSound F shape
  pub streaming : (n : ℕ) (p : PhysicalNode) → slice_get shape n ≡ Some p → IsStreaming p.kind

-- the shape has one sink
pub record HasOneSink (shape : Shape) : Type 0 where
  pub place : ℕ
  pub sink : PhysicalNode
  pub there : slice_get shape place ≡ Some sink
  pub kind : sink.kind ≡ in_memory_sink
  pub only : (n : ℕ) (p : PhysicalNode) → slice_get shape n ≡ Some p → p.kind ≡ in_memory_sink → n ≡ place

-- THE ANSWER
-- the rows of a whole table that the sink means, in its schema
abbrev pub IsAnswer : Functions → Shape → Frame → Type 0
IsAnswer F shape t =
    (n : ℕ) (p : PhysicalNode) → slice_get shape n ≡ Some p → p.kind ≡ in_memory_sink → (t.schema ≡ p.schema) × ((T : Table) × PhysicalMeans F shape n T × IsWhole T × (t.rows ≡ T.rows))

-- the error of a cause that breaks its node in some meaning, or that says that its node has too many rows, where it is large
abbrev pub IsFaultOf : Functions → Shape → PolarsError → Type 0
IsFaultOf F shape e = (c : Cause) × NamesCause F shape c × (e ≡ cause_error c)

-- with which error a run stops whose world has this ending: that of its fault, or want of memory where it has none
abbrev pub error_at : Ending → PolarsError
error_at running = error.OutOfMemory
error_at finished = error.OutOfMemory
error_at (faulty c) = cause_error c

-- a run of the shape comes to a world at which it stops with this error
abbrev pub StopsWith : Functions → Shape → Options → PolarsError → Type 0
StopsWith F shape o e = (w : World) × Reaches F shape o w × (e ≡ error_at w.ending)

-- THE RUN
-- the record is of a hand-in by this worker
abbrev pub IsHandInBy : (worker : ℕ) → Record → Type 0
IsHandInBy k (handed_in n i number worker answer) = worker ≡ k
IsHandInBy k _ = ⊥

module _ {N P : Type 0} (Has : Options → N → SeenNode → Type 0) (Shows : Piece → P → Type 0) (IsFor : Functions → PhysicalNode → P → Type 0) where
  -- The run is at a world that the opening of the shape reaches. Where it has a fault, or a want of memory is marked, it can't go on: then it tells the world's journal and its ending, and that is all.
  pub record IsAt (F : Functions) (shape : Shape) (o : Options) (w : World) (run : Run N P) : Type 0 where
    pub driven : CanBeDriven F shape
    pub reached : Reaches F shape o w
    pub tells : Tells w run.world
    pub seats : length run.pieces.items ≡ o.workers
    pub stands : run.world.fault ≡ None → Stands Has w run.world
    pub held : run.world.fault ≡ None → AreHeld Shows IsFor F shape w run.pieces.items

  -- whichever world the run was at, it is still there
  abbrev pub StaysAt : (old new : Run N P) → Type 0
  StaysAt old new = (F : Functions) (shape : Shape) (o : Options) (w : World) → IsAt F shape o w old → IsAt F shape o w new

  -- the run is at a world to which steps lead from w
  abbrev pub HasGoneOn : Functions → Shape → Options → World → Run N P → Type 0
  HasGoneOn F shape o w run = (records : List Record) × (v : World) × Replays F w records v × IsAt F shape o v run

  -- A worker that has no piece may make the move.
  pub record MayMake (F : Functions) (shape : Shape) (o : Options) (w : World) (worker : ℕ) (move : Move) (run : Run N P) : Type 0 where
    pub at : IsAt F shape o w run
    pub unmarked : run.world.fault ≡ None
    pub idle : slice_get run.pieces.items worker ≡ Some None
    pub enabled : IsEnabled F w move

  -- The run is at the world to which a step leads from w: any, one that makes the move, or one that hands in this worker's piece.
  abbrev pub HasStepped : Functions → Shape → Options → World → Run N P → Type 0
  HasStepped F shape o w run = (r : Record) × (v : World) × Steps F w r v × IsAt F shape o v run

  abbrev pub HasMade : Functions → Shape → Options → World → Move → Run N P → Type 0
  HasMade F shape o w move run = (r : Record) × (v : World) × (move_made r ≡ Some move) × Steps F w r v × IsAt F shape o v run

  abbrev pub HasHandedIn : Functions → Shape → Options → World → (worker : ℕ) → Run N P → Type 0
  HasHandedIn F shape o w worker run = (r : Record) × (v : World) × IsHandInBy worker r × Steps F w r v × IsAt F shape o v run
