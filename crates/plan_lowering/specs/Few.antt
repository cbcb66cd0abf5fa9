-- How many nodes a physical plan may have, and how many streams they may read.
use Rattle.std.specs.Prelude.{◌<◌, ◌^◌, ℕ, length, sum_by}
use Rattle.ps_meaning.specs.Shape.{Shape}

-- how many streams the nodes of a shape read, all of them together
abbrev pub inputs_in_all : Shape → ℕ
inputs_in_all shape = sum_by (λ p. length p.inputs) shape

-- a signed number of 32 bits counts them, and another one what they read
pub record AreFew (shape : Shape) : Type 0 where
  pub nodes : length shape < 2 ^ 31
  pub inputs : inputs_in_all shape < 2 ^ 31
