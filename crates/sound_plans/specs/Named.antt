-- Expressions that are there, up to a number.
use Rattle.std.specs.Prelude.{ℕ, ◌<◌}
use Rattle.pu_base.specs.declared.arena.Node.{Node}
use Rattle.ps_frame.specs.Trees.{IsComplete, Tree}

-- every expression below a number is there, with all that it names
abbrev pub AreThereBelow : (Node → Tree) → ℕ → Type 0
AreThereBelow f n = (m : Node) → m.0 < n → IsComplete (f m)
