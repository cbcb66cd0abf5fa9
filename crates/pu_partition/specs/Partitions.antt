-- In which of n parts a hash lies.
use Rattle.std.specs.Prelude.{ℕ, ◌*◌, ◌/◌, ◌^◌}

-- the part of n equal parts of the 64-bit numbers in which h lies
abbrev pub partition_of : ℕ → ℕ → ℕ
partition_of h n = h * n / 2 ^ 64
