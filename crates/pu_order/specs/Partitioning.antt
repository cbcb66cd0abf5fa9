-- What a hash partitioner is.
use Rattle.std.specs.Prelude.{ℕ}

-- how many parts there are, and the number by which each hash is multiplied first
pub record Partitioning : Type 0 where
  pub parts : ℕ
  pub multiplier : ℕ
