-- Eight bytes of a list that may have fewer.
use Rattle.std.specs.Prelude.{ℕ, ◌-◌, List, ◌++◌, length, take, replicate}

-- the first eight, and then zeros
unfoldable pub padded : List ℕ → List ℕ
padded bs = take 8 bs ++ replicate (8 - length bs) 0
