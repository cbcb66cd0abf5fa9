-- The numbers of the temporary names among others, while they are collected.
use Rattle.std.specs.Prelude.{◌≡◌, ℕ, ◌<◌, ◌^◌, List, IsTrue}
use Rattle.ps_meaning.specs.Schemas.{is_among}
use Rattle.ps_meaning.specs.Steps.{Name}
use Rattle.ps_rules.specs.Names.{is_taken, temporary}

-- these are the numbers of the temporary names among those names
pub record AreNumbersOf (numbers : List ℕ) (names : List Name) : Type 0 where
  pub small : (k : ℕ) → IsTrue (is_taken k numbers) → k < 2 ^ 64
  pub taken : (k : ℕ) → k < 2 ^ 64 → is_taken k numbers ≡ is_among (temporary k) names
