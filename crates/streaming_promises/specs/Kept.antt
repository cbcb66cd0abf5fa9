-- What is promised of every world that the opening of a shape reaches, whoever makes the steps and in whatever order.
use Rattle.std.specs.Prelude.{◌≡◌, ℕ, Some, slice_get, Contains}
use Rattle.ps_frame.specs.Functions.{Functions}
use Rattle.ps_meaning.specs.Shape.{Shape, in_memory_sink}
use Rattle.ps_turns.specs.Results.{IsResult}
use Rattle.ps_turns.specs.Tasks.{Answer, Piece}
use Rattle.ps_world.specs.Promises.{ClaimsAll, DropsAtLast, HandsAllIn, IsBounded, IsClaimedOnce, Promises, StaysHalted, StoresFew}
use Rattle.ps_world.specs.World.{Node, World}
use Rattle.world_measure.specs.Driving.{StepsTo}
use Rattle.world_measure.specs.Order.{Ends}
use Rattle.world_ends.specs.Runs.{ReachesEnd}
use Rattle.world_families.specs.Keepers.{StoresAll}

-- a sink holds the rows of the morsels that it took, in number order
abbrev pub SinksHold : World → Type 0
SinksHold w = (n : ℕ) (node : Node) → slice_get w.nodes n ≡ Some node → node.node.kind ≡ in_memory_sink → StoresAll w n node

-- for each piece that is out something may be handed in
abbrev pub EachPieceHasResult : Functions → World → Type 0
EachPieceHasResult F w = (q : Piece) → Contains w.outs q → (a : Answer) × IsResult F q a

-- The answer: one choice of tables serves all pipes, a run that ended has the answer, one that goes on may step or has a piece out, and sinks hold what they took.
-- The work: each number comes once and is handed in, satisfied slices halt what feeds them alone, little is in flight, and slices from the end store few rows.
-- The end: each piece may be handed in, every run from here ends, and some run comes to a world that is finished or faulty.
pub record KeepsPromises (F : Functions) (shape : Shape) (w : World) : Type 0 where
  pub promises : Promises F shape w
  pub sinks_hold : SinksHold w
  pub claimed_once : IsClaimedOnce w
  pub hands_all_in : HandsAllIn F w
  pub all_claimed : ClaimsAll F w
  pub drops : DropsAtLast F w
  pub stays_halted : StaysHalted F w
  pub bounded : IsBounded w
  pub stores_few : StoresFew w
  pub piece_results : EachPieceHasResult F w
  pub run_ends : Ends (StepsTo F) w
  pub reaches_end : ReachesEnd F w
