-- Rows by their keys: the numbers of keys, and the rows that have them.
use Rattle.std.specs.Prelude.{◌≡◌, ℕ, ◌==◌, List, [], length, map, take, get_or, filter as kept, slice_get, slice_index, not, Some}
use Rattle.std.specs.List.{list_any}
use Rattle.ps_frame.specs.Values.{same_row}
use Rattle.ps_frame.specs.Zip.{below}
use Rattle.ps_frame.specs.declared.value.Value.{Value}
use Rattle.ps_meaning.specs.Distinct.{distinct_rows}
use Rattle.ps_keys.specs.declared.numbering.Numbering.{Numbering}

-- the places of the rows that are unlike all rows before them
abbrev pub first_places : List (List Value) → List ℕ
first_places rows = kept (λ i. not (list_any (same_row (get_or rows i [])) (take i rows))) (below (length rows))

-- The first row of each distinct row is kept by its place, and each row is the distinct row of its number.
pub record Numbers (rows : List (List Value)) (n : Numbering) : Type 0 where
  pub firsts : n.firsts.items ≡ first_places rows
  pub keys : map (slice_get (distinct_rows rows)) n.keys.items ≡ map Some rows

-- the places of a number, in order
abbrev pub places_of : ℕ → List ℕ → List ℕ
places_of k numbers = kept (λ i. slice_index numbers i == k) (below (length numbers))
