-- How a list comes apart in chunks of a size, of which the last may be shorter.
use Rattle.std.specs.Prelude.{◌≡◌, ℕ, ◌+◌, ◌-◌, ◌*◌, ◌/◌, ◌<◌, List, [], ◌++◌, length, min, Option, MatchOption}
use Rattle.std.specs.Borrow.{Bor}

-- how many chunks n items have
abbrev pub chunk_total : ℕ → ℕ → ℕ
chunk_total n size = (n + size - 1) / size

module _ {T : Type 0} where
  -- a chunk comes off the front of the first list and leaves the second
  abbrev pub chunk_steps : List T → ℕ → Option (Bor (List T)) → List T → ℕ → Type 0
  chunk_steps before size r after size' = (size' ≡ size) × MatchOption r ((before ≡ []) × (after ≡ []))
      (λ chunk. (before ≡ chunk.now ++ after) × (length chunk.now ≡ min size (length before)) × (0 < length before))

  -- a chunk comes off the back: what stays are whole chunks
  abbrev pub chunk_steps_back : List T → ℕ → Option (Bor (List T)) → List T → ℕ → Type 0
  chunk_steps_back before size r after size' = (size' ≡ size) × MatchOption r ((before ≡ []) × (after ≡ []))
      (λ chunk. (before ≡ after ++ chunk.now) × (length after ≡ (length before - 1) / size * size) × (0 < length before))
