-- Which rows a distinct keeps, by the numbers of their keys.
use Rattle.std.specs.Prelude.{◌≡◌, ℕ, ◌<◌, ◌+◌, ◌==◌, List, length, drop, filter as kept, slice_index, Bool, not}
use Rattle.std.specs.List.{list_any}
use Rattle.ps_frame.specs.Zip.{below}
use Rattle.ps_keys.specs.Numbering.{places_of}
use Rattle.ps_keys.specs.declared.numbering.Numbering.{Numbering}
use Rattle.ps_meaning.specs.declared.options.UniqueKeepStrategy.{UniqueKeepStrategy}
use Rattle.ps_meaning.specs.declared.options.UniqueKeepStrategy.TheVariants as keep

-- whether the number at a place comes again behind it
abbrev pub comes_again : List ℕ → ℕ → Bool
comes_again numbers i = list_any (λ k. k == slice_index numbers i) (drop (i + 1) numbers)

-- the places of the numbers that don't come again
abbrev pub last_places : List ℕ → List ℕ
last_places numbers = kept (λ i. not (comes_again numbers i)) (below (length numbers))

-- the places of the numbers that come once
abbrev pub single_places : List ℕ → List ℕ
single_places numbers = kept (λ i. length (places_of (slice_index numbers i) numbers) == 1) (below (length numbers))

-- the places of the rows that are kept
abbrev pub kept_places : UniqueKeepStrategy → Numbering → List ℕ
kept_places keep.First n = n.firsts.items
kept_places keep.Any n = n.firsts.items
kept_places keep.Last n = last_places n.keys.items
kept_places keep.None n = single_places n.keys.items

-- for each number the last place that has it, below the count
pub record AreLasts (count : ℕ) (numbers lasts : List ℕ) : Type 0 where
  pub long : length lasts ≡ count
  pub at_last : (i : ℕ) → i < length numbers → (slice_index lasts (slice_index numbers i) == i) ≡ not (comes_again numbers i)
