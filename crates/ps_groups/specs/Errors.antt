-- Errors at a node.
use Rattle.std.specs.Prelude.{◌≡◌, ◌⊎◌, ℕ}
use Rattle.ps_frame.specs.declared.refusal.PolarsError.{PolarsError}
use Rattle.ps_frame.specs.declared.refusal.PolarsError.TheVariants as error
use Rattle.ps_frame.specs.declared.value.DataFault.{DataFault}
use Rattle.ps_meaning.specs.Errors.{fault_error}

-- want of memory, or a fault of these at the node
abbrev pub IsErrorAt : ℕ → (DataFault → Type 0) → PolarsError → Type 0
IsErrorAt at P e = (e ≡ error.OutOfMemory) ⊎ ((f : DataFault) × (e ≡ fault_error at f) × P f)
