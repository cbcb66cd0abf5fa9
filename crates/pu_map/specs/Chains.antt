-- Chains: for each bucket the numbers of its keys, from the last one that was put in to the first.
-- A place is one more than a number, and 0 is the end of a chain.
use Rattle.std.specs.Prelude.{◌≡◌, ◌≢◌, ℕ, ◌-◌, ◌*◌, ◌%◌, ◌^◌, ◌<◌, ◌≤◌, List, length, slice_index}
use Rattle.pu_partition.specs.Partitions.{partition_of}

-- the bucket of a hash among so many
abbrev pub bucket_of : ℕ → ℕ → ℕ → ℕ
bucket_of seed count hash = partition_of (hash * seed % 2 ^ 64) count

module _ (b : ℕ → ℕ) where
  -- among the first `bound` hashes the last in this bucket is at this place
  pub record IsLast (hashes : List ℕ) (bucket place bound : ℕ) : Type 0 where
    pub within : place ≤ bound
    pub points : 0 < place → b (slice_index hashes (place - 1)) ≡ bucket
    pub none_between : (j : ℕ) → place ≤ j → j < bound → b (slice_index hashes j) ≢ bucket

  -- the first `bound` hashes are chained: a head is the place of its bucket's last, and each leads to the last before it
  pub record IsChained (heads hashes nexts : List ℕ) (bound : ℕ) : Type 0 where
    pub heads_are_last : (bucket : ℕ) → bucket < length heads → IsLast hashes bucket (slice_index heads bucket) bound
    pub nexts_are_last : (i : ℕ) → i < bound → IsLast hashes (b (slice_index hashes i)) (slice_index nexts i) i
