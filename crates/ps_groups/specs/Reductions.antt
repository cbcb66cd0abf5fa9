-- Aggregates of plain columns, and what they give of the rows of each key.
use Rattle.std.specs.Prelude.{◌≡◌, ⊤, ℕ, ℤ, pos, ◌<◌, ◌≤◌, List, [], ◌∷◌, length, map, filter, get_or, not, slice_get, Some}
use Rattle.std.specs.Int.{int_wrap, w64}
use Rattle.ps_frame.specs.Aggregates.{max_rows, sum_value, total}
use Rattle.ps_frame.specs.Causes.{whole_column}
use Rattle.ps_frame.specs.Eval.{eval}
use Rattle.ps_frame.specs.Frames.{kinds_of}
use Rattle.ps_frame.specs.Gathered.{rows_at}
use Rattle.ps_frame.specs.Tables.{Fields, Frame, field_index, values_at, whole}
use Rattle.ps_frame.specs.Trees.{Aggregation, Tree}
use Rattle.ps_frame.specs.Values.{is_null}
use Rattle.ps_frame.specs.Zip.{below}
use Rattle.ps_frame.specs.declared.value.Value.{Value}
use Rattle.ps_frame.specs.declared.value.Value.TheVariants as val
use Rattle.ps_groups.specs.Statistics.{told, values_in}
use Rattle.ps_groups.specs.declared.reductions.Reduction.{Reduction}
use Rattle.ps_groups.specs.declared.reductions.Reduction.TheVariants as reduction
use Rattle.ps_keys.specs.Numbering.{places_of}

-- how many values aren't null
abbrev pub count_values : List Value → ℕ
count_values vs = length (filter (λ v. not (is_null v)) vs)

-- what a reduction gives of rows under a schema
abbrev pub reduced_value : Fields → List (List Value) → Reduction → Value
reduced_value s rows reduction.Len = val.IdxSize (length rows)
reduced_value s rows (reduction.Count i) = val.IdxSize (count_values (values_at i rows))
reduced_value s rows (reduction.Sum i) = sum_value (slice_get (kinds_of s) i) (values_at i rows)
reduced_value s rows (reduction.Told statistic i) = told statistic (values_at i rows)

-- the columns that a reduction reads stand in a schema of so many fields
abbrev pub ReadsWithin : ℕ → Reduction → Type 0
ReadsWithin n reduction.Len = ⊤
ReadsWithin n (reduction.Count i) = i < n
ReadsWithin n (reduction.Sum i) = i < n
ReadsWithin n (reduction.Told statistic i) = i < n

-- over each table of a schema an expression is one cell, the value of the reduction
abbrev pub Reduces : Fields → Tree → Reduction → Type 0
Reduces s t r = (at : ℕ) (f : Frame) → f.schema ≡ s → length f.rows ≤ max_rows → eval at (whole f) t ≡ whole_column (reduced_value s f.rows r ∷ [])

-- an aggregate of the column at a place is so reduced
abbrev pub ReducesColumn : Aggregation → ℕ → Reduction → Type 0
ReducesColumn a i r = (s : Fields) (name : List ℕ) → i < length s → field_index name s ≡ Some i → Reduces s (Tree.aggregate a (Tree.column name)) r

-- the values of a reduction over the rows of each key number below a count
abbrev pub reduced_values : Frame → ℕ → List ℕ → Reduction → List Value
reduced_values f count keys r = map (λ k. reduced_value f.schema (rows_at (places_of k keys) f.rows) r) (below count)

-- a column's values in the rows of a key number
abbrev pub values_of_key : List Value → List ℕ → ℕ → List Value
values_of_key values keys k = values_in values (places_of k keys)

-- for each key number below a count an item of which P holds with the key's values
pub record AreOfKeys {A : Type 0} (none : A) (P : List Value → A → Type 0) (count : ℕ) (values : List Value) (keys : List ℕ) (items : List A) : Type 0 where
  pub long : length items ≡ count
  pub each : (k : ℕ) → k < count → P (values_of_key values keys k) (get_or items k none)

-- their sums, wrapped, and how many of them aren't null
abbrev pub IsSum : List Value → ℤ → Type 0
IsSum vs z = z ≡ int_wrap w64 (total vs)

abbrev pub AreSums : ℕ → List Value → List ℕ → List ℤ → Type 0
AreSums count values keys sums = AreOfKeys (pos 0) IsSum count values keys sums

abbrev pub IsCount : List Value → ℕ → Type 0
IsCount vs n = n ≡ count_values vs

abbrev pub AreCounts : ℕ → List Value → List ℕ → List ℕ → Type 0
AreCounts count values keys counts = AreOfKeys 0 IsCount count values keys counts
