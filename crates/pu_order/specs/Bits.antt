-- Sums of bits without carry.
use Rattle.std.specs.Prelude.{ℕ, zero, suc, ◌+◌, ◌-◌, ◌*◌, ◌%◌}
use Rattle.std.specs.Int.{bit_at}

-- f 0 + .. + f (n - 1) modulo 2: the xor of these bits
abbrev pub xor_below : (ℕ → ℕ) → ℕ → ℕ
xor_below f zero = 0
xor_below f (suc n) = (xor_below f n + f n) % 2

-- bit i of the product of x and y without carries: the xor of `x[i - j] & y[j]` over j up to i
abbrev pub carryless_bit : ℕ → ℕ → ℕ → ℕ
carryless_bit x y i = xor_below (λ j. bit_at x (i - j) * bit_at y j) (i + 1)
