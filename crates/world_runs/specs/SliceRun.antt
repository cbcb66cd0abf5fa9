-- A scan of four rows, one a morsel, under a slice of two, and the journal of a run of it: the slice drops its input, and the scan gives no more.
use Rattle.std.specs.Prelude.{List, [], ◌∷◌}
use Rattle.ps_meaning.specs.Shape.{Shape, in_memory_sink, in_memory_source, streaming_slice}
use Rattle.ps_options.specs.declared.options.Options.{Options}
use Rattle.ps_turns.specs.Tasks.{rows}
use Rattle.ps_world.specs.World.{Record, claimed, closed, ended, handed_in, opened, pulled}
use Rattle.world_runs.specs.Examples.{a_schema, options, row}

abbrev pub one_by_one : Options
one_by_one = options 1 1 16 tt tt tt tt tt tt

abbrev pub slice_shape : Shape
slice_shape =
    record { kind = in_memory_source (record { schema = a_schema; rows = row 1 ∷ row 2 ∷ row 3 ∷ row 4 ∷ [] }); schema = a_schema; origin = 0; inputs = [] }
    ∷ record { kind = streaming_slice 0 2; schema = a_schema; origin = 1; inputs = (0, 0) ∷ [] } ∷ record { kind = in_memory_sink; schema = a_schema; origin = 2; inputs = (1, 0) ∷ [] } ∷ []

abbrev pub slice_journal : List Record
slice_journal =
    opened 1 ∷ claimed 0 0 0 0 ∷ handed_in 0 0 0 0 (rows 1) ∷ claimed 1 0 0 0 ∷ handed_in 1 0 0 0 (rows 1) ∷ claimed 0 0 1 0 ∷ handed_in 0 0 1 0 (rows 1) ∷ claimed 1 0 1 0 ∷ handed_in 1 0 1 0 (rows 1) ∷ pulled 2 0 0 ∷ pulled 2 0 1 ∷ closed 1 ∷ closed 2 ∷ closed 0 ∷ ended 1 ∷ opened 2 ∷ []
