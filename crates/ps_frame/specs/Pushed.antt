-- A column that grows at its end.
use Rattle.std.specs.Prelude.{List, [], ◌∷◌, ◌++◌, Option, Some, None}
use Rattle.ps_frame.specs.Series.{Series}
use Rattle.ps_frame.specs.declared.value.Value.{Value}

-- a column with one more value at its end
abbrev pub with_value : Series → Value → Series
with_value c v = record { kind = c.kind; values = c.values ++ v ∷ [] }

-- the values of a column that may be there
abbrev pub values_of : Option Series → List Value
values_of None = []
values_of (Some c) = c.values
