-- What a sink stores.
use Rattle.std.specs.Prelude.{ℕ, List}
use Rattle.kept_tables.specs.Kept.{rows_of_each}
use Rattle.ps_frame.specs.Tables.{Fields, Frame, Row}
use Rattle.ps_turns.specs.Heads.{stored_rows}
use Rattle.pu_base.specs.declared.arena.Node.{Node}

-- The schema of its table, the logical node that it comes from, its morsels in the order in which they came, and for how many more there is memory.
pub record Morsels : Type 0 where
  pub schema : Fields
  pub origin : Node
  pub morsels : List Frame
  pub spare : ℕ

-- the rows of tables, one table behind the other
abbrev pub rows_in : List Frame → List Row
rows_in fs = stored_rows (rows_of_each fs)

-- all of them as one table
abbrev pub as_table : Morsels → Frame
as_table m = record { schema = m.schema; rows = rows_in m.morsels }
