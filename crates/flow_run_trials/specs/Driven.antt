-- Runs that a trial drives.
use Rattle.std.specs.Prelude.{◌≡◌, None}
use Rattle.flow_driver.specs.Runs.{HasOneSink, IsAt}
use Rattle.flow_driver.specs.declared.run.Run.{Run}
use Rattle.ps_frame.specs.Functions.{Functions}
use Rattle.ps_meaning.specs.Shape.{PhysicalNode, Shape}
use Rattle.ps_options.specs.declared.options.Options.{Options}
use Rattle.ps_turns.specs.Tasks.{Piece}
use Rattle.ps_world.specs.World.{World}
use Rattle.turn_laws.specs.Updating.{SeenNode}

module _ {N P : Type 0} (Has : Options → N → SeenNode → Type 0) (Shows : Piece → P → Type 0) (IsFor : Functions → PhysicalNode → P → Type 0) where
  -- The run is at some world that the opening of a shape with one sink reaches.
  pub record IsUnderWay (F : Functions) (run : Run N P) : Type 0 where
    pub shape : Shape
    pub one_sink : HasOneSink shape
    pub options : Options
    pub world : World
    pub at : IsAt Has Shows IsFor F shape options world run
