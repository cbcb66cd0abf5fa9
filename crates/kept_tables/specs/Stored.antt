-- The rows that came of an input, as they are kept.
use Rattle.std.specs.Prelude.{◌≡◌, List, [], Option, Some, None, ⊤}
use Rattle.ps_frame.specs.Tables.{Fields, Row}
use Rattle.kept_tables.specs.declared.stored_rows.Kept.{Kept}
use Rattle.kept_tables.specs.declared.stored_rows.Kept.TheVariants as kept

abbrev pub rows_in : Option Kept → List Row
rows_in None = []
rows_in (Some (kept.Growing b)) = b.rows
rows_in (Some (kept.Whole t)) = t.rows

-- under this schema
abbrev pub IsUnder : Fields → Option Kept → Type 0
IsUnder s None = ⊤
IsUnder s (Some (kept.Growing b)) = b.schema ≡ s
IsUnder s (Some (kept.Whole t)) = t.schema ≡ s
