-- Nodes that are there, and that each stream has one reader.
use Rattle.std.specs.Prelude.{◌≡◌, ◌<◌, ◌≤◌, ℕ, List, Option, Some, IsSome}
use Rattle.std.specs.List.{AllByRecursion}
use Rattle.keyed_slots.specs.Slots.{value_at}
use Rattle.ps_meaning.specs.Shape.{Shape}
use Rattle.ps_multiplexers.specs.Multiplexers.{with_multiplexers}
use Rattle.ps_multiplexers.specs.Taken.{streams_after, takes}
use Rattle.ps_phys.specs.Shown.{inputs_of}
use Rattle.ps_phys.specs.Walks.{Stream}
use Rattle.ps_phys.specs.declared.phys.PhysNode.{PhysNode}

-- these streams are the first ports of nodes that are there
abbrev pub AreFirstPorts : List (Option PhysNode) → List Stream → Type 0
AreFirstPorts slots inputs = AllByRecursion (λ (i : Stream). IsSome (value_at slots i.0) × (i.1 ≡ 0)) inputs

-- the node of a number reads such streams
abbrev pub ReadsFirst : List (Option PhysNode) → ℕ → Type 0
ReadsFirst slots n = (p : PhysNode) → value_at slots n ≡ Some p → AreFirstPorts slots (inputs_of p.kind)

-- the nodes below a number do
abbrev pub ReadBelow : List (Option PhysNode) → ℕ → Type 0
ReadBelow slots k = (n : ℕ) → n < k → ReadsFirst slots n

-- These are nodes with their multiplexers: among those that the walk from the root takes, and the multiplexers, no stream has two readers.
pub record IsReadOnce (root : ℕ) (after : Shape) : Type 0 where
  pub before : Shape
  pub shared : after ≡ with_multiplexers root before
  pub once : (s : Stream) → takes s (streams_after root before) ≤ 1
