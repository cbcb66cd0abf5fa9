-- A range cut into parts of nearly equal size, the longer ones first.
use Rattle.std.specs.Prelude.{ℕ, ◌*◌, ◌+◌, ◌/◌, ◌%◌, min, if◌then◌else◌, nat_lt}

-- how many items stand before part i of k, of n items
abbrev pub before_portion : ℕ → ℕ → ℕ → ℕ
before_portion i k n = n / k * i + min i (n % k)

-- how many items part i of k has
abbrev pub portion_len : ℕ → ℕ → ℕ → ℕ
portion_len i k n = if nat_lt i (n % k) then n / k + 1 else n / k
