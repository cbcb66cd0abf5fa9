-- The pipes that leave a multiplexer.
use Rattle.std.specs.Prelude.{ℕ, Bool, true, List, slice_get, unwrap_or}

-- one of which nothing is said is empty
abbrev pub is_empty_at : (empties : List Bool) → (port : ℕ) → Bool
is_empty_at es i = unwrap_or (slice_get es i) true
