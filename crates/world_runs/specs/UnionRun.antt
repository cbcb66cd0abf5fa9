-- A union of two scans, and the journal of a run of it: past its first input its numbers go on.
use Rattle.std.specs.Prelude.{List, [], ◌∷◌}
use Rattle.ps_meaning.specs.Shape.{Shape, in_memory_sink, in_memory_source, ordered_union}
use Rattle.ps_turns.specs.Tasks.{rows}
use Rattle.ps_world.specs.World.{Record, claimed, closed, ended, handed_in, opened, pulled}
use Rattle.world_runs.specs.Examples.{a_schema, row}

abbrev pub union_shape : Shape
union_shape =
    record { kind = in_memory_source (record { schema = a_schema; rows = row 1 ∷ row 2 ∷ [] }); schema = a_schema; origin = 0; inputs = [] }
    ∷ record { kind = in_memory_source (record { schema = a_schema; rows = row 3 ∷ [] }); schema = a_schema; origin = 1; inputs = [] }
    ∷ record { kind = ordered_union; schema = a_schema; origin = 2; inputs = (0, 0) ∷ (1, 0) ∷ [] } ∷ record { kind = in_memory_sink; schema = a_schema; origin = 3; inputs = (2, 0) ∷ [] } ∷ []

abbrev pub union_journal : List Record
union_journal =
    opened 1 ∷ claimed 0 0 0 0 ∷ handed_in 0 0 0 0 (rows 2) ∷ claimed 2 0 0 0 ∷ handed_in 2 0 0 0 (rows 2) ∷ pulled 3 0 0 ∷ closed 0 ∷ closed 2 ∷ closed 3 ∷ ended 1 ∷ opened 2 ∷ claimed 1 0 0 0 ∷ handed_in 1 0 0 0 (rows 1) ∷ claimed 2 1 0 0 ∷ handed_in 2 1 0 0 (rows 1) ∷ pulled 3 0 1 ∷ closed 1 ∷ closed 2 ∷ closed 3 ∷ ended 2 ∷ opened 3 ∷ []
