-- What updates leave as it was.
use Rattle.std.specs.Prelude.{◌≡◌, ℕ}
use Rattle.ps_ports.specs.Ports.{Sides}

-- Each count that no update changes is the same in both nodes.
pub record SameCounts {N : Type 0} (Update : N → Sides → N → Sides → Type 0) (a b : N) : Type 0 where
  pub same : (count : N → ℕ) → ((x y : N) (given answer : Sides) → Update x given y answer → count y ≡ count x) → count b ≡ count a
