-- A map of a function that the caller handed in, which turns the rows round, and the journal of a run of it: between two phases it is filled with the function's answer.
use Rattle.std.specs.Prelude.{List, [], ◌∷◌}
use Rattle.ps_frame.specs.Tables.{Frame}
use Rattle.ps_meaning.specs.Shape.{Shape, in_memory_map, in_memory_sink, in_memory_source}
use Rattle.ps_meaning.specs.Steps.{user}
use Rattle.ps_turns.specs.Tasks.{rows}
use Rattle.ps_world.specs.World.{Record, claimed, closed, ended, handed_in, opened, pulled}
use Rattle.world_runs.specs.Examples.{a_schema, given, row}

-- the rows in the other order
abbrev pub turned_round : Frame
turned_round = record { schema = a_schema; rows = row 3 ∷ row 2 ∷ row 1 ∷ [] }

abbrev pub map_shape : Shape
map_shape =
    record { kind = in_memory_source given; schema = a_schema; origin = 0; inputs = [] }
    ∷ record { kind = in_memory_map (user 0); schema = a_schema; origin = 1; inputs = (0, 0) ∷ [] } ∷ record { kind = in_memory_sink; schema = a_schema; origin = 2; inputs = (1, 0) ∷ [] } ∷ []

abbrev pub map_journal : List Record
map_journal =
    opened 1 ∷ claimed 0 0 0 0 ∷ handed_in 0 0 0 0 (rows 3) ∷ pulled 1 0 0 ∷ closed 0 ∷ closed 1 ∷ ended 1 ∷ opened 2 ∷ claimed 1 0 0 0 ∷ handed_in 1 0 0 0 (rows 3) ∷ pulled 2 0 0 ∷ closed 1 ∷ closed 2 ∷ ended 2 ∷ opened 3 ∷ []
