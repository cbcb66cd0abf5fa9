-- What is told of values, and the values of a column in some rows.
use Rattle.std.specs.Prelude.{ℕ, List, length, map, get_or}
use Rattle.ps_frame.specs.Aggregates.{distinct_values, greatest_value, last_value, least_value}
use Rattle.ps_frame.specs.Sorting.{first_key}
use Rattle.ps_frame.specs.declared.value.Value.{Value}
use Rattle.ps_frame.specs.declared.value.Value.TheVariants as val
use Rattle.ps_groups.specs.declared.statistics.Statistic.{Statistic}
use Rattle.ps_groups.specs.declared.statistics.Statistic.TheVariants as statistic

abbrev pub told : Statistic → List Value → Value
told statistic.Least vs = least_value vs
told statistic.Greatest vs = greatest_value vs
told statistic.First vs = first_key vs
told statistic.Last vs = last_value vs
told statistic.Distinct vs = val.IdxSize (length (distinct_values vs))

-- a column's values in these rows
abbrev pub values_in : List Value → List ℕ → List Value
values_in values rows = map (λ i. get_or values i val.Null) rows
