-- A left join of two morsels a side, and the journal of a run of it with two workers, who hand in out of order.
use Rattle.std.specs.Prelude.{List, [], ◌∷◌}
use Rattle.ps_frame.specs.Tables.{Row}
use Rattle.ps_frame.specs.declared.value.Value.TheVariants as val
use Rattle.ps_turns.specs.Tasks.{rows}
use Rattle.world_runs.specs.Examples.{number}
use Rattle.ps_meaning.specs.Shape.{Shape, in_memory_sink, in_memory_source}
use Rattle.ps_world.specs.World.{Record, claimed, closed, ended, handed_in, opened, pulled}
use Rattle.world_runs.specs.Joins.{a_left_join, key, left_fields, right_fields, right_rows, x, y, z}

-- the morsels of both sides, and what the left ones give
abbrev pub l0 : List Row
l0 = key 2 ∷ key 1 ∷ []

abbrev pub l1 : List Row
l1 = key 2 ∷ key 3 ∷ []

abbrev pub r0 : List Row
r0 = x 1 ∷ y 2 ∷ []

abbrev pub r1 : List Row
r1 = z 2 ∷ []

abbrev pub a0 : List Row
a0 = y 2 ∷ z 2 ∷ x 1 ∷ []

abbrev pub a1 : List Row
a1 = y 2 ∷ z 2 ∷ (number 3 ∷ val.Null ∷ []) ∷ []

abbrev pub join_shape : Shape
join_shape =
    record { kind = in_memory_source (record { schema = left_fields; rows = key 2 ∷ key 1 ∷ key 2 ∷ key 3 ∷ [] }); schema = left_fields; origin = 0; inputs = [] }
    ∷ record { kind = in_memory_source (record { schema = right_fields; rows = right_rows }); schema = right_fields; origin = 1; inputs = [] }
    ∷ a_left_join
    ∷ record { kind = in_memory_sink; schema = right_fields; origin = 3; inputs = (2, 0) ∷ [] } ∷ []

abbrev pub join_journal : List Record
join_journal =
    opened 1 ∷ claimed 1 0 0 0 ∷ claimed 1 0 1 1 ∷ handed_in 1 0 1 1 (rows 1) ∷ handed_in 1 0 0 0 (rows 2) ∷ closed 1 ∷ claimed 2 1 0 0
    ∷ claimed 2 1 1 1 ∷ handed_in 2 1 1 1 (rows 1) ∷ handed_in 2 1 0 0 (rows 2) ∷ closed 2 ∷ ended 1 ∷ opened 2 ∷ claimed 0 0 0 0 ∷ claimed 0 0 1 1
    ∷ handed_in 0 0 0 0 (rows 2) ∷ handed_in 0 0 1 1 (rows 2) ∷ closed 0 ∷ claimed 2 0 0 0 ∷ claimed 2 0 1 1 ∷ handed_in 2 0 1 1 (rows 3)
    ∷ handed_in 2 0 0 0 (rows 3) ∷ closed 2 ∷ pulled 3 0 0 ∷ pulled 3 0 1 ∷ closed 3 ∷ ended 2 ∷ opened 3 ∷ []
