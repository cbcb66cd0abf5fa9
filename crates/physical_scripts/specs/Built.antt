-- What a trial asks of the nodes that it builds.
use Rattle.std.specs.Prelude.{◌≡◌, ◌<◌, ℕ, List, Option, Some, IsSome}
use Rattle.std.specs.List.{AllByRecursion}
use Rattle.keyed_slots.specs.Slots.{value_at}
use Rattle.ps_phys.specs.Shown.{inputs_of}
use Rattle.ps_phys.specs.Walks.{Stream}
use Rattle.ps_phys.specs.declared.phys.PhysNode.{PhysNode}

-- the nodes of these streams are there
abbrev pub AreThere : List (Option PhysNode) → List Stream → Type 0
AreThere slots inputs = AllByRecursion (λ (i : Stream). IsSome (value_at slots i.0)) inputs

-- what the node of a number reads is there
abbrev pub ReadsThere : List (Option PhysNode) → ℕ → Type 0
ReadsThere slots n = (p : PhysNode) → value_at slots n ≡ Some p → AreThere slots (inputs_of p.kind)

-- the same of the nodes below a number
abbrev pub ReadBelow : List (Option PhysNode) → ℕ → Type 0
ReadBelow slots k = (n : ℕ) → n < k → ReadsThere slots n
