-- The function of the tests, and the plans whose second node does what a map does.
use Rattle.std.specs.Prelude.{List, [], ◌∷◌, None, take}
use Rattle.std.specs.List.{AllByRecursion}
use Rattle.ps_frame.specs.Tables.{Frame, Row}
use Rattle.ps_meaning.specs.declared.options.FunctionIR.TheVariants as call
use Rattle.ps_plan.specs.declared.ir.IR.{IR}
use Rattle.ps_plan.specs.declared.ir.IR.TheVariants as entry
use Rattle.ps_meaning.specs.declared.options.SinkType.TheVariants as sink
use Rattle.ps_meaning.specs.declared.map.MapKind.{MapKind}
use Rattle.ps_meaning.specs.declared.map.MapKind.TheVariants as kind

-- the first row of a table
abbrev pub first_row : Frame → Frame
first_row f = record { schema = f.schema; rows = take 1 f.rows }

pub first_fits : (P : Row → Type 0) (rows : List Row) → AllByRecursion P rows → AllByRecursion P (take 1 rows)
first_fits P [] fits = tt
first_fits P (row ∷ rows) fits = (fits.0, tt)

-- the node over the first that does what the map does
abbrev pub tested_entry : MapKind → IR
tested_entry (kind.Function n) = entry.MapFunction (record { 0 = 0 }) (call.User n)
tested_entry (kind.Select es) = entry.Select (record { 0 = 0 }) es
tested_entry (kind.Sort by cut options) = entry.Sort (record { 0 = 0 }) by cut options
tested_entry (kind.GroupBy keys aggs maintain cut) = entry.GroupBy (record { 0 = 0 }) keys aggs maintain (record { slice = cut })
tested_entry (kind.Distinct options) = entry.Distinct (record { 0 = 0 }) options

abbrev pub tested_nodes : Frame → MapKind → List IR
tested_nodes df k = entry.DataFrameScan df None ∷ tested_entry k ∷ entry.Sink (record { 0 = 1 }) sink.Memory ∷ []
