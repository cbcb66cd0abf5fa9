-- How a table finds the number of a row's key: the keys of each bucket are chained, the last one first.
-- A place is one more than a key's number, and 0 is the end of a chain.
use Rattle.std.specs.Prelude.{◌≡◌, ◌≢◌, ℕ, ◌-◌, ◌<◌, ◌≤◌, ◌⊎◌, List, [], ◌∷◌, ◌++◌, length, map, slice_index}
use Rattle.pu_partition.specs.Partitions.{partition_of}
use Rattle.ps_frame.specs.Series.{Series}
use Rattle.ps_keys.specs.Hashes.{HaveRow, row_hash}
use Rattle.ps_frame.specs.declared.value.Value.{Value}
use Rattle.ps_keys.specs.declared.buckets.KeyBuckets.{KeyBuckets}

-- among the first `bound` keys the last in this bucket is at this place
pub record IsLast (buckets : List ℕ) (bucket place bound : ℕ) : Type 0 where
  pub within : place ≤ bound
  pub points : 0 < place → slice_index buckets (place - 1) ≡ bucket
  pub none_between : (j : ℕ) → place ≤ j → j < bound → slice_index buckets j ≢ bucket

-- each head is the place of its bucket's last key, and each key leads to the last before it in its bucket
pub record IsChained (heads buckets nexts : List ℕ) : Type 0 where
  pub heads_are_last : (b : ℕ) → b < length heads → IsLast buckets b (slice_index heads b) (length buckets)
  pub nexts_are_last : (k : ℕ) → k < length buckets → IsLast buckets (slice_index buckets k) (slice_index nexts k) k
  pub linked : length nexts ≡ length buckets

-- the buckets of hashes among so many
abbrev pub buckets_of : ℕ → List ℕ → List ℕ
buckets_of count hashes = map (λ h. partition_of h count) hashes

module _ (row : ℕ → List Value) where
  -- the table chains the keys of these rows by their hashes
  pub record IsSound (t : KeyBuckets) : Type 0 where
    pub chained : IsChained t.heads.items (buckets_of (length t.heads.items) t.hashes.items) t.nexts.items
    pub hashed : t.hashes.items ≡ map (λ i. row_hash (row i)) t.firsts.items

  -- row i is like the first row of key k
  pub record IsKeyOf (firsts : List ℕ) (i k : ℕ) : Type 0 where
    pub within : k < length firsts
    pub same : row (slice_index firsts k) ≡ row i

  -- row i is unlike the first row of each key
  abbrev pub IsNew : List ℕ → ℕ → Type 0
  IsNew firsts i = (k : ℕ) → k < length firsts → row (slice_index firsts k) ≢ row i

  -- row i has key k: one that was there, or a new one of which it is the first row
  abbrev pub IsNumbered : List ℕ → List ℕ → ℕ → ℕ → Type 0
  IsNumbered old new i k = (IsKeyOf old i k × (new ≡ old)) ⊎ (IsNew old i × (k ≡ length old) × (new ≡ old ++ i ∷ []))

-- the columns have each of these rows
abbrev pub HaveRows : List Series → List ℕ → Type 0
HaveRows columns rows = (k : ℕ) → k < length rows → HaveRow columns (slice_index rows k)
