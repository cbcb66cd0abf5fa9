-- Which node made a cause.
use Rattle.std.specs.Prelude.{◌≡◌, ℕ, ◌⊎◌, List, Contains}
use Rattle.std.specs.List.{flat_map}
use Rattle.ps_frame.specs.Causes.{Cause}
use Rattle.ps_frame.specs.Tables.{Table}

-- each of these causes was made by the node, or is one of the others
abbrev pub AreOwnOr : (others : List Cause) → (node : ℕ) → List Cause → Type 0
AreOwnOr others node xs = (x : Cause) → Contains xs x → (x.node ≡ node) ⊎ Contains others x

-- what broke any of these tables
abbrev pub all_broken : List Table → List Cause
all_broken ts = flat_map (λ (t : Table). t.broken) ts
