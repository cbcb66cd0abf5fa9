-- The rows that nodes keep.
use Rattle.std.specs.Prelude.{List, [], Option, Some, None, option_map}
use Rattle.ps_frame.specs.Tables.{Fields, Frame, Row}

abbrev pub rows_kept : Option Frame → List Row
rows_kept None = []
rows_kept (Some f) = f.rows

-- the schema of what it keeps: its own before it keeps anything
abbrev pub schema_kept : Fields → Option Frame → Fields
schema_kept s None = s
schema_kept s (Some f) = f.schema

-- the rows of a table that a node made, once it made one
abbrev pub rows_made : Option Frame → Option (List Row)
rows_made made = option_map (λ (f : Frame). f.rows) made
