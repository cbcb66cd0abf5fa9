-- A zip of two rows and three, and the journal of a run of it: two rows go on, and the Open that finds both inputs done finds that their lengths differ.
use Rattle.std.specs.Prelude.{List, [], ◌∷◌, codes, false}
use Rattle.ps_frame.specs.Tables.{Fields}
use Rattle.ps_frame.specs.declared.value.DataType.TheVariants as kind
use Rattle.ps_meaning.specs.Shape.{Shape, in_memory_sink, in_memory_source, zip_node}
use Rattle.ps_turns.specs.Tasks.{rows}
use Rattle.ps_world.specs.World.{Record, claimed, closed, ended, handed_in, opened, pulled}
use Rattle.world_runs.specs.Examples.{a_schema, row}

abbrev pub b_schema : Fields
b_schema = (codes "b", kind.Int64) ∷ []

abbrev pub both_schemas : Fields
both_schemas = (codes "a", kind.Int64) ∷ (codes "b", kind.Int64) ∷ []

abbrev pub differing_shape : Shape
differing_shape =
    record { kind = in_memory_source (record { schema = a_schema; rows = row 1 ∷ row 2 ∷ [] }); schema = a_schema; origin = 0; inputs = [] }
    ∷ record { kind = in_memory_source (record { schema = b_schema; rows = row 3 ∷ row 4 ∷ row 5 ∷ [] }); schema = b_schema; origin = 1; inputs = [] }
    ∷ record { kind = zip_node false; schema = both_schemas; origin = 2; inputs = (0, 0) ∷ (1, 0) ∷ [] } ∷ record { kind = in_memory_sink; schema = both_schemas; origin = 3; inputs = (2, 0) ∷ [] } ∷ []

abbrev pub differing_journal : List Record
differing_journal =
    opened 1 ∷ claimed 1 0 0 0 ∷ handed_in 1 0 0 0 (rows 3) ∷ claimed 0 0 0 0 ∷ handed_in 0 0 0 0 (rows 2) ∷ pulled 2 0 0 ∷ pulled 2 1 0 ∷ claimed 2 0 0 0 ∷ handed_in 2 0 0 0 (rows 2) ∷ pulled 3 0 0 ∷ closed 1 ∷ closed 0 ∷ closed 2 ∷ closed 3 ∷ ended 1 ∷ opened 2 ∷ []
