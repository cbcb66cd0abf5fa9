-- Sketches of hashes, as their registers.
use Rattle.std.specs.Prelude.{ℕ, ◌+◌, ◌*◌, ◌/◌, ◌%◌, ◌^◌, List, [], ◌∷◌, slice_index, slice_set, max, fold, replicate}
use Rattle.std.specs.Int.{leading_zeros, w64}

-- a hash, spread
abbrev pub spread : ℕ → ℕ
spread h = h * 0x902813a5785dc787 % 2 ^ 64

-- the register of a hash: the top 8 bits
abbrev pub register_of : ℕ → ℕ
register_of h = spread h / 2 ^ 56

-- its rank: one more than the zeros before the first one among the other bits
abbrev pub rank_of : ℕ → ℕ
rank_of h = 1 + leading_zeros w64 (spread h * 2 ^ 8 % 2 ^ 64)

-- a register becomes the maximum of itself and the rank
abbrev pub raised : List ℕ → ℕ → ℕ → List ℕ
raised registers i rank = slice_set registers i (max (slice_index registers i) rank)

-- the registers once a hash is inserted
abbrev pub with_hash : List ℕ → ℕ → List ℕ
with_hash registers h = raised registers (register_of h) (rank_of h)

-- the maximum of each register with the other's
abbrev pub combined : List ℕ → List ℕ → List ℕ
combined [] others = []
combined (x ∷ xs) [] = []
combined (x ∷ xs) (y ∷ ys) = max x y ∷ combined xs ys

-- the registers once these hashes are inserted
abbrev pub sketch_of : List ℕ → List ℕ
sketch_of hashes = fold with_hash (replicate 256 0) hashes
