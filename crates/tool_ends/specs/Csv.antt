-- Rows of columns, as they are written one by one.
use Rattle.std.specs.Prelude.{◌<◌, ◌++◌, ◌∷◌, [], ℕ, Bool, List, map, get_or, length, if◌then◌else◌}
use Rattle.std.specs.List.{AllByRecursion}
use Rattle.ps_frame.specs.Series.{Series}
use Rattle.ps_frame.specs.declared.value.Value.{Value}
use Rattle.ps_frame.specs.declared.value.Value.TheVariants as val

-- the values of the columns at a place
abbrev pub cells : ℕ → List Series → List Value
cells row columns = map (λ (c : Series). get_or c.values row val.Null) columns

-- each column has a value at this place
abbrev pub ReachesRow : ℕ → List Series → Type 0
ReachesRow row columns = AllByRecursion (λ (c : Series). row < length c.values) columns

-- what ends a row: its line feed, after two quotes where it shows nothing
abbrev pub row_end : Bool → List ℕ
row_end is_blank = (if is_blank then 34 ∷ 34 ∷ [] else []) ++ 10 ∷ []
