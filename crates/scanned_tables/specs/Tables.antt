-- The tables that entries of a plan scan.
use Rattle.std.specs.Prelude.{IsTrue, ⊤}
use Rattle.ps_frame.specs.Frames.{has_distinct_names}
use Rattle.ps_frame.specs.Lawful.{FitsFrame}
use Rattle.ps_plan.specs.declared.ir.IR.{IR}
use Rattle.ps_plan.specs.declared.ir.IR.TheVariants as entry

-- the rows of a scanned table fit its schema, in which no name stands twice
abbrev pub HoldsFitTable : IR → Type 0
HoldsFitTable (entry.DataFrameScan df columns) = FitsFrame df × IsTrue (has_distinct_names df.schema)
HoldsFitTable _ = ⊤
