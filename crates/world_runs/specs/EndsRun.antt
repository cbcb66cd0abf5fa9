-- A scan of four rows, one a morsel, under a slice of the one row that stands two before the end, and the journal of a run of it: the slice lets go of the first morsels while it takes, and gives its row in the second phase.
use Rattle.std.specs.Prelude.{List, [], ◌∷◌}
use Rattle.ps_meaning.specs.Shape.{Shape, in_memory_sink, in_memory_source, negative_slice}
use Rattle.ps_turns.specs.Tasks.{rows}
use Rattle.ps_world.specs.World.{Record, claimed, closed, ended, handed_in, opened, pulled}
use Rattle.world_runs.specs.Examples.{a_schema, row}

abbrev pub ends_shape : Shape
ends_shape =
    record { kind = in_memory_source (record { schema = a_schema; rows = row 1 ∷ row 2 ∷ row 3 ∷ row 4 ∷ [] }); schema = a_schema; origin = 0; inputs = [] }
    ∷ record { kind = negative_slice 2 1; schema = a_schema; origin = 1; inputs = (0, 0) ∷ [] } ∷ record { kind = in_memory_sink; schema = a_schema; origin = 2; inputs = (1, 0) ∷ [] } ∷ []

abbrev pub ends_journal : List Record
ends_journal =
    opened 1 ∷ claimed 0 0 0 0 ∷ handed_in 0 0 0 0 (rows 1) ∷ claimed 0 0 1 0 ∷ handed_in 0 0 1 0 (rows 1) ∷ claimed 0 0 2 0 ∷ handed_in 0 0 2 0 (rows 1) ∷ claimed 0 0 3 0 ∷ handed_in 0 0 3 0 (rows 1) ∷ pulled 1 0 0 ∷ pulled 1 0 1 ∷ pulled 1 0 2 ∷ pulled 1 0 3 ∷ closed 0 ∷ closed 1 ∷ ended 1 ∷ opened 2 ∷ claimed 1 0 0 0 ∷ handed_in 1 0 0 0 (rows 1) ∷ pulled 2 0 0 ∷ closed 1 ∷ closed 2 ∷ ended 2 ∷ opened 3 ∷ []
