-- A count of the rows of each key, in two lists of keys, and the journal of a run of it: each list gives a morsel of its own.
use Rattle.std.specs.Prelude.{ℕ, List, [], ◌∷◌, codes}
use Rattle.ps_frame.specs.Tables.{Fields, Row}
use Rattle.ps_frame.specs.Trees.{Tree}
use Rattle.ps_frame.specs.declared.value.DataType.TheVariants as kind
use Rattle.ps_frame.specs.declared.value.Value.TheVariants as val
use Rattle.ps_meaning.specs.Shape.{Shape, group_by_node, in_memory_sink, in_memory_source}
use Rattle.ps_options.specs.declared.options.Options.{Options}
use Rattle.ps_turns.specs.Tasks.{rows}
use Rattle.ps_world.specs.World.{Record, claimed, closed, ended, handed_in, opened, pulled}
use Rattle.world_runs.specs.Examples.{number, options, row}

abbrev pub in_two_lists : Options
in_two_lists = options 1 100000 2 tt tt tt tt tt tt

abbrev pub k_schema : Fields
k_schema = (codes "k", kind.Int64) ∷ []

abbrev pub counts_schema : Fields
counts_schema = (codes "k", kind.Int64) ∷ (codes "n", kind.IdxSize) ∷ []

-- a key, and how many rows have it
abbrev pub counted : ℕ → ℕ → Row
counted k n = number k ∷ val.IdxSize n ∷ []

abbrev pub group_shape : Shape
group_shape =
    record { kind = in_memory_source (record { schema = k_schema; rows = row 1 ∷ row 2 ∷ row 1 ∷ [] }); schema = k_schema; origin = 0; inputs = [] }
    ∷ record { kind = group_by_node ((codes "k", Tree.column (codes "k")) ∷ []) ((codes "n", Tree.len) ∷ []); schema = counts_schema; origin = 1; inputs = (0, 0) ∷ [] }
    ∷ record { kind = in_memory_sink; schema = counts_schema; origin = 2; inputs = (1, 0) ∷ [] } ∷ []

abbrev pub group_journal : List Record
group_journal =
    opened 1 ∷ claimed 0 0 0 0 ∷ handed_in 0 0 0 0 (rows 3) ∷ claimed 1 0 0 0 ∷ handed_in 1 0 0 0 (rows 2) ∷ closed 0 ∷ closed 1 ∷ ended 1 ∷ opened 2 ∷ claimed 1 0 0 0 ∷ handed_in 1 0 0 0 (rows 1) ∷ claimed 1 0 1 0 ∷ handed_in 1 0 1 0 (rows 1) ∷ pulled 2 0 0 ∷ pulled 2 0 1 ∷ closed 1 ∷ closed 2 ∷ ended 2 ∷ opened 3 ∷ []
