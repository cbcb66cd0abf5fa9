-- Rows of columns, and their hashes.
use Rattle.std.specs.Prelude.{◌≡◌, ℕ, ◌<◌, ◌*◌, ◌/◌, ◌%◌, ◌^◌, bit_xor, ℤ, List, [], ◌∷◌, map, fold, get_or, length, Option, Some, None, unwrap_or, if◌then◌else◌}
use Rattle.std.specs.Int.{w64, cast_unsigned, int_wrap}
use Rattle.std.specs.List.{All}
use Rattle.std.specs.Ordering.{int_eq}
use Rattle.std.specs.Hash as fed
use Rattle.std.specs.Hash.FoldHasher as folding
use Rattle.std.specs.declared.hash.FoldHasher.{FoldHasher}
use Rattle.ps_frame.specs.Series.{Series}
use Rattle.ps_frame.specs.declared.value.Value.{Value}
use Rattle.ps_frame.specs.declared.value.Value.TheVariants as val

-- the values of columns at a row
abbrev pub row_at : List Series → ℕ → List Value
row_at columns i = map (λ (c : Series). get_or c.values i val.Null) columns

-- each column has this row
abbrev pub HaveRow : List Series → ℕ → Type 0
HaveRow columns i = All (λ (c : Series). i < length c.values) columns

-- what a value writes to a hasher: a byte for null, and else its truth value, its number or its text
abbrev pub writes : Value → fed.HashWrites
writes val.Null = fed.u8 0
writes (val.Boolean b) = fed.bool b
writes (val.Int64 z) = fed.i64 z
writes (val.IdxSize n) = fed.u32 n
writes (val.String s) = fed.str s

-- a hasher once a value was written to it
abbrev pub with_value : FoldHasher → Value → FoldHasher
with_value state v = fold folding.write state (writes v)

-- times an odd number, by which no two numbers below 2 ^ 64 come together
abbrev pub times_odd : ℕ → ℕ
times_odd n = n * 11400714819323198485 % 2 ^ 64

-- a number whose upper half is folded into its lower one, by which no two numbers below 2 ^ 64 come together
abbrev pub folded : ℕ → ℕ
folded n = bit_xor n (n / 2 ^ 32)

-- the hash of a number: unless it is 0 no other number has it, and what 64 bits don't hold has 0
abbrev pub number_hash : ℤ → ℕ
number_hash z = if int_eq (int_wrap w64 z) z then times_odd (folded (cast_unsigned w64 z)) else 0

-- the hash of a number or a null that stands alone in its row
abbrev pub alone_hash : List Value → Option ℕ
alone_hash (val.Null ∷ []) = Some 0
alone_hash (val.Int64 z ∷ []) = Some (number_hash z)
alone_hash _ = None

-- the hash of a row by its values one after another
abbrev pub fed_hash : List Value → ℕ
fed_hash row = folding.finish (fold with_value folding.initial row)

-- the hash of a row
abbrev pub row_hash : List Value → ℕ
row_hash row = unwrap_or (alone_hash row) (fed_hash row)

-- rows of this hash are equal
abbrev pub TellsApart : List Series → ℕ → Type 0
TellsApart columns hash = (a b : ℕ) → row_hash (row_at columns a) ≡ hash → row_hash (row_at columns b) ≡ hash → row_at columns a ≡ row_at columns b
