-- The hash words of this crate, to the bit.
use Rattle.std.specs.Prelude.{ℕ, ◌+◌, ◌*◌, ◌/◌, ◌%◌, ◌^◌, bit_or, bit_xor, ℤ}
use Rattle.std.specs.Int.{cast_unsigned, w64, w128}

-- boost's combination of two hashes: all of it wraps at 64 bits
abbrev pub combined : ℕ → ℕ → ℕ
combined l r = bit_xor l ((r + (0x9e3779b9 + l * 2 ^ 6 + r / 2 ^ 2)) % 2 ^ 64)

-- the low half of the 128-bit product, xor its high half
abbrev pub folded_product : ℕ → ℕ → ℕ
folded_product a b = bit_xor (a * b % 2 ^ 64) (a * b / 2 ^ 64)

-- the odd number by which a partitioner of this seed multiplies its hashes
abbrev pub multiplier_of : ℕ → ℕ
multiplier_of seed =
    bit_or (folded_product (folded_product (bit_xor seed 0x85921e81c41226a0) 0x3bc1d0faba166294) 0xfbde893e21a73756) 1

-- the dirty hash of 64 bits
abbrev pub scrambled : ℕ → ℕ
scrambled n = n * 0x55fbfd6bfc5458e9 % 2 ^ 64

-- the dirty hash of a signed number of at most 64 bits, whose sign is extended
abbrev pub scrambled_signed : ℤ → ℕ
scrambled_signed z = scrambled (cast_unsigned w64 z)

-- the dirty hash of a signed number of 128 bits: that of the low half, plus the high half
abbrev pub scrambled_wide : ℤ → ℕ
scrambled_wide z =
    let bits = cast_unsigned w128 z in (scrambled (bits % 2 ^ 64) + bits / 2 ^ 64) % 2 ^ 64
