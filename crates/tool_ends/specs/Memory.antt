-- A source and a sink in memory, as they stand.
use Rattle.std.specs.Prelude.{ℕ, List}

-- what it has left, how much it gives a call, the calls that fail, and how many calls there were and failed
pub record SourceState : Type 0 where
  pub bytes : List ℕ
  pub chunk : ℕ
  pub failing : List ℕ
  pub calls : ℕ
  pub failed : ℕ

-- what was written, how much it takes in all, the calls that fail, and how many calls there were and failed
pub record SinkState : Type 0 where
  pub bytes : List ℕ
  pub room : ℕ
  pub failing : List ℕ
  pub calls : ℕ
  pub failed : ℕ
