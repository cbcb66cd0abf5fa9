-- What the tool's functions answer: function 0 negates the whole numbers, and the others reverse the rows.
use Rattle.std.specs.Prelude.{◌==◌, ℕ, map, reverse, if◌then◌else◌}
use Rattle.std.specs.Int.{int_wrapping_neg, w64}
use Rattle.ps_frame.specs.Tables.{Frame}
use Rattle.ps_frame.specs.Series.{Series}
use Rattle.ps_frame.specs.declared.value.Value.{Value}
use Rattle.ps_frame.specs.declared.value.Value.TheVariants as val

-- a whole number with its sign changed, where the least one stays itself; other values stay
abbrev pub negated_value : Value → Value
negated_value val.Null = val.Null
negated_value (val.Boolean b) = val.Boolean b
negated_value (val.Int64 z) = val.Int64 (int_wrapping_neg w64 z)
negated_value (val.IdxSize n) = val.IdxSize n
negated_value (val.String s) = val.String s

abbrev pub negated : Frame → Frame
negated f = record { schema = f.schema; rows = map (map negated_value) f.rows }

abbrev pub reversed : Frame → Frame
reversed f = record { schema = f.schema; rows = reverse f.rows }

abbrev pub tool_answer : ℕ → Frame → Frame
tool_answer n f = if n == 0 then negated f else reversed f

-- the same of a column
abbrev pub negated_of : Series → Series
negated_of c = record { kind = c.kind; values = map negated_value c.values }

abbrev pub reversed_of : Series → Series
reversed_of c = record { kind = c.kind; values = reverse c.values }
