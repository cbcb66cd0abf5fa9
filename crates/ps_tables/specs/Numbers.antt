-- The numbers of rows.
use Rattle.std.specs.Prelude.{ℕ, zero, suc, ◌+◌, List, [], ◌∷◌}
use Rattle.ps_frame.specs.declared.value.Value.{Value}
use Rattle.ps_frame.specs.declared.value.Value.TheVariants as val

-- the numbers from one on, as many as asked
abbrev pub numbers_from : ℕ → ℕ → List Value
numbers_from first zero = []
numbers_from first (suc n) = val.IdxSize first ∷ numbers_from (first + 1) n
