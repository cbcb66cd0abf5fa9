-- Rows in the order of their values.
use Rattle.std.specs.Prelude.{List}
use Rattle.std.specs.declared.cmp.Ordering.{Ordering}
use Rattle.std.specs.Cmp.Lexicographic.{slice_cmp}
use Rattle.std.specs.Ordering.{on}
use Rattle.ps_frame.specs.Values.{value_cmp}
use Rattle.ps_frame.specs.declared.value.Value.{Value}
use Rattle.ps_keys.specs.Hashes.{row_at}
use Rattle.ps_keys.specs.declared.row_order.OrderedRow.{OrderedRow}

-- the values of a row
abbrev pub values_of : OrderedRow → List Value
values_of r = row_at r.columns.now r.row

-- the order of rows: the first values that differ decide
abbrev pub ordered_row_cmp : OrderedRow → OrderedRow → Ordering
ordered_row_cmp = on values_of (slice_cmp value_cmp)
