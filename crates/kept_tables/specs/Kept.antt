-- Tables that are kept in order.
use Rattle.std.specs.Prelude.{List, [], Option, Some, None, map}
use Rattle.std.specs.declared.alloc.Global.{Global}
use Rattle.std.specs.declared.collections.VecDeque.{VecDeque}
use Rattle.ps_frame.specs.Tables.{Frame, Row}

abbrev pub tables_kept : Option (VecDeque Frame Global) → List Frame
tables_kept None = []
tables_kept (Some fs) = fs.items

-- the rows of each
abbrev pub rows_of_each : List Frame → List (List Row)
rows_of_each fs = map (λ (f : Frame). f.rows) fs
