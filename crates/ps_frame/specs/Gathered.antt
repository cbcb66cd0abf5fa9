-- What stands at chosen places.
use Rattle.std.specs.Prelude.{◌≡◌, ℕ, ◌<◌, List, [], length, map, get_or, Option, Some, None}
use Rattle.std.specs.List.{All}
use Rattle.ps_frame.specs.Frames.{kept}
use Rattle.ps_frame.specs.Series.{Series}
use Rattle.ps_frame.specs.Zip.{below}
use Rattle.ps_frame.specs.declared.value.Value.{Value}
use Rattle.ps_frame.specs.declared.value.Value.TheVariants as val

-- the values of a column at these places, in this order
abbrev pub gathered : List ℕ → Series → Series
gathered places c = record { kind = c.kind; values = map (λ i. get_or c.values i val.Null) places }

-- the value at a place that may be there, and else null
abbrev pub value_or_null : List Value → Option ℕ → Value
value_or_null values None = val.Null
value_or_null values (Some i) = get_or values i val.Null

-- the same of a column, with null where there is no place
abbrev pub gathered_or_null : List (Option ℕ) → Series → Series
gathered_or_null places c = record { kind = c.kind; values = map (λ place. value_or_null c.values place) places }

-- the rows of a table at these places, in this order
abbrev pub rows_at : List ℕ → List (List Value) → List (List Value)
rows_at places rows = map (λ i. get_or rows i []) places

-- values as they are, or those of them that stand at some places
abbrev pub picked : Option (List ℕ) → List Value → List Value
picked None values = values
picked (Some places) values = map (λ i. get_or values i val.Null) places

-- the places of so many values, or those that are picked of them
abbrev pub places_of : ℕ → Option (List ℕ) → List ℕ
places_of n None = below n
places_of n (Some places) = places

-- the values are those at these places of so many others
pub record ArePicked (values : List Value) (places : List ℕ) (count : ℕ) : Type 0 where
  pub others : List Value
  pub many : length others ≡ count
  pub within : All (λ i. i < count) places
  pub are : values ≡ picked (Some places) others

-- the rows beside which a mask is true
abbrev pub true_rows : List Value → List ℕ
true_rows mask = kept mask (below (length mask))
