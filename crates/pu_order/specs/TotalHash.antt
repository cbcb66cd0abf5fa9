-- What is fed to a hasher.
use Rattle.std.specs.Prelude.{ℕ, List, true, false, ◌++◌, Option, Some, None}
use Rattle.std.specs.Hash as fed

-- whether there is a value, and then the value
abbrev pub option_writes : {T : Type 0} → (T → List (List ℕ)) → Option T → List (List ℕ)
option_writes F None = fed.bool false
option_writes F (Some x) = fed.bool true ++ F x
