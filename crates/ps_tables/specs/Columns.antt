-- Columns of tables.
use Rattle.std.specs.Prelude.{ℕ, ◌-◌, List, [], ◌∷◌, ◌++◌, map, length, replicate, IsTrue}
use Rattle.std.specs.List.{AllByRecursion}
use Rattle.ps_frame.specs.Tables.{Frame, values_at}
use Rattle.ps_frame.specs.Series.{Series, all_fit}
use Rattle.ps_frame.specs.Zip.{below}
use Rattle.ps_frame.specs.declared.value.Value.{Value}
use Rattle.ps_frame.specs.declared.value.Value.TheVariants as val

-- the values of each column are null or of its kind
abbrev pub AllFit : List Series → Type 0
AllFit columns = AllByRecursion (λ (c : Series). IsTrue (all_fit c.kind c.values)) columns

-- the rows of tables, one table after the other
abbrev pub all_rows : List Frame → List (List Value)
all_rows [] = []
all_rows (f ∷ fs) = f.rows ++ all_rows fs

-- the columns of tables as values, one table after the other
abbrev pub all_values : List Frame → List (List Value)
all_values [] = []
all_values (f ∷ fs) = map (λ i. values_at i f.rows) (below (length f.schema)) ++ all_values fs

-- values with nulls behind them, up to a height
abbrev pub filled : ℕ → List Value → List Value
filled height vs = vs ++ replicate (height - length vs) val.Null

-- the same of a column
abbrev pub filled_to : ℕ → Series → Series
filled_to height c = record { kind = c.kind; values = filled height c.values }
