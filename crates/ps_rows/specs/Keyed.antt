-- The zip of a table and expressions as a table and key columns of its height.
use Rattle.std.specs.Prelude.{◌≡◌, List, [], map, length, Option, Some}
use Rattle.std.specs.List.{AllByRecursion}
use Rattle.ps_frame.specs.Frames.{AllOfHeight, all_beside, column_values}
use Rattle.ps_frame.specs.Tables.{Fields, Frame, rows_of}
use Rattle.ps_frame.specs.Series.{Series}
use Rattle.ps_frame.specs.Zip.{Zipped}
use Rattle.ps_frame.specs.declared.value.DataType.{DataType}

-- a table of the schema and key columns of these kinds have the rows of a zip that nothing broke
pub record IsTableWithKeys (z : Zipped) (schema : Fields) (kinds : List (Option DataType)) (t : Frame) (keys : List Series) : Type 0 where
  pub schema_is : t.schema ≡ schema
  pub whole_is : z.broken ≡ []
  pub rows : z.rows ≡ all_beside t.rows (rows_of (length t.rows) (column_values keys))
  pub widths : AllByRecursion (λ row. length row ≡ length schema) t.rows
  pub kinds_are : map (λ (c : Series). Some c.kind) keys ≡ kinds
  pub heights : AllOfHeight (length t.rows) keys
