-- A full join of two morsels a side, and the journal of a run of it with two workers: its last piece gives the right row without a match, under the number after those of the left morsels.
use Rattle.std.specs.Prelude.{List, [], ◌∷◌}
use Rattle.ps_frame.specs.Tables.{Fields}
use Rattle.ps_meaning.specs.Shape.{Shape, in_memory_sink, in_memory_source}
use Rattle.ps_options.specs.declared.options.Options.{Options}
use Rattle.ps_turns.specs.Tasks.{rows}
use Rattle.ps_world.specs.World.{Record, claimed, closed, ended, handed_in, opened, pulled}
use Rattle.world_runs.specs.Examples.{options}
use Rattle.world_runs.specs.Joins.{a_full_join, key, left_fields, right_fields, x, y}

abbrev pub two_singly : Options
two_singly = options 2 1 2 tt tt tt tt tt tt

abbrev pub full_fields : Fields
full_fields = a_full_join.schema

abbrev pub full_shape : Shape
full_shape =
    record { kind = in_memory_source (record { schema = left_fields; rows = key 1 ∷ key 3 ∷ [] }); schema = left_fields; origin = 0; inputs = [] }
    ∷ record { kind = in_memory_source (record { schema = right_fields; rows = x 4 ∷ y 1 ∷ [] }); schema = right_fields; origin = 1; inputs = [] }
    ∷ a_full_join ∷ record { kind = in_memory_sink; schema = full_fields; origin = 3; inputs = (2, 0) ∷ [] } ∷ []

abbrev pub full_journal : List Record
full_journal =
    opened 1 ∷ claimed 1 0 0 0 ∷ claimed 1 0 1 1 ∷ handed_in 1 0 1 1 (rows 1) ∷ handed_in 1 0 0 0 (rows 1) ∷ claimed 2 1 0 0 ∷ claimed 2 1 1 1 ∷ handed_in 2 1 1 1 (rows 1) ∷ handed_in 2 1 0 0 (rows 1) ∷ closed 1 ∷ closed 2 ∷ ended 1 ∷ opened 2 ∷ claimed 0 0 0 0 ∷ claimed 0 0 1 1 ∷ handed_in 0 0 1 1 (rows 1) ∷ handed_in 0 0 0 0 (rows 1) ∷ claimed 2 0 0 0 ∷ claimed 2 0 1 1 ∷ handed_in 2 0 1 1 (rows 1) ∷ handed_in 2 0 0 0 (rows 1) ∷ pulled 3 0 0 ∷ pulled 3 0 1 ∷ closed 0 ∷ closed 2 ∷ closed 3 ∷ ended 2 ∷ opened 3 ∷ claimed 2 0 2 0 ∷ handed_in 2 0 2 0 (rows 1) ∷ pulled 3 0 2 ∷ closed 2 ∷ closed 3 ∷ ended 3 ∷ opened 4 ∷ []
