-- Tables that end as columns do and others that don't, and a call over a source without rows.
use Rattle.std.specs.Prelude.{ℕ, zero, suc, pos, false, List, [], ◌∷◌}
use Rattle.ps_frame.specs.Causes.{Cause, Column, faulty, whole_column}
use Rattle.ps_frame.specs.Tables.{Table}
use Rattle.ps_frame.specs.Zip.{Zipped, zipped}
use Rattle.ps_frame.specs.declared.value.DataFault.TheVariants as fault
use Rattle.ps_frame.specs.declared.value.DataType.TheVariants as kind
use Rattle.ps_frame.specs.declared.value.Value.{Value}
use Rattle.ps_frame.specs.declared.value.Value.TheVariants as val
use Rattle.ps_meaning.specs.Steps.{Named}
use Rattle.ps_rules.specs.Worked.{a_name, ab_fields, b_name, col_b, field, sum_of, col_a}

abbrev pub one : Value
one = val.Int64 (pos 1)

abbrev pub cast_fault : Cause
cast_fault = record { fault = fault.StrictCast; node = 1 }

-- a cell that a cast made faulty, and one value
abbrev pub faulty_cell : Column
faulty_cell = record { cells = faulty cast_fault [] ∷ []; broken = []; lost = [] }

abbrev pub one_cell : Column
one_cell = whole_column (one ∷ [])

-- the zip of a faulty cell with a column that has no cells: the cell would stand in each row, of which there are none
abbrev pub beside_none : Zipped
beside_none = zipped false 1 (faulty_cell ∷ whole_column [] ∷ [])

-- and with a column of one cell
abbrev pub beside_one : Zipped
beside_one = zipped false 1 (faulty_cell ∷ one_cell ∷ [])

-- what is asked over the source of two columns
abbrev pub wanted : List Named
wanted = (a_name, sum_of col_a) ∷ (b_name, col_b) ∷ []

-- tables of the call that lowers these: the source without rows, the sum of its first column, and both side by side
abbrev pub worked_tables : ℕ → Table
worked_tables zero = record { schema = ab_fields; rows = []; broken = [] }
worked_tables (suc zero) = record { schema = field 0 kind.Int64 ∷ []; rows = (val.Int64 (pos 0) ∷ []) ∷ []; broken = [] }
worked_tables (suc (suc n)) = record { schema = (a_name, kind.Int64) ∷ (b_name, kind.Int64) ∷ field 0 kind.Int64 ∷ []; rows = []; broken = [] }
