-- The two numbers that are kept in one: a chunk in the lowest bits, and a row above them.
use Rattle.std.specs.Prelude.{ℕ, ◌*◌, ◌+◌, ◌/◌, ◌%◌, ◌^◌}

abbrev pub joined : ℕ → ℕ → ℕ → ℕ
joined bits chunk row = row * 2 ^ bits + chunk

abbrev pub chunk_part : ℕ → ℕ → ℕ
chunk_part bits inner = inner % 2 ^ bits

-- the 32 bits above the chunk's
abbrev pub row_part : ℕ → ℕ → ℕ
row_part bits inner = inner / 2 ^ bits % 2 ^ 32
