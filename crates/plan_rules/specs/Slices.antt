-- Slices: that of a node of its own, and the one that a node applies last.
use Rattle.std.specs.Prelude.{ℕ, zero, suc, ℤ, pos, negsuc, Some, None}
use Rattle.ps_meaning.specs.Shape.{PhysicalKind, negative_slice, streaming_slice}
use Rattle.ps_meaning.specs.Steps.{Cut}
use Rattle.ps_rules.specs.Slots.{Made, State, Stream, over_same}

-- An offset below 0 counts from the end. Where no rows are asked for, the end isn't waited for.
abbrev pub slice_kind : (offset : ℤ) → (length : ℕ) → PhysicalKind
slice_kind (pos offset) n = streaming_slice offset n
slice_kind (negsuc k) zero = streaming_slice 0 0
slice_kind (negsuc k) (suc n) = negative_slice (suc k) (suc n)

module _ (at : ℕ) where
  abbrev pub slice_stream : (offset : ℤ) → (length : ℕ) → Stream → State → Made
  slice_stream offset n = over_same at (slice_kind offset n)

  -- the slice that is applied last, if there is one
  abbrev pub cut_stream : Cut → Stream → State → Made
  cut_stream None input s = record { state = s; stream = input }
  cut_stream (Some cut) input s = slice_stream cut.0 cut.1 input s
