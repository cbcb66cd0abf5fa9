-- Nodes with multiplexers, as a root shows them.
use Rattle.std.specs.Prelude.{◌≡◌, ◌<◌, ◌↔◌, ℕ}
use Rattle.std.specs.List.{AllByRecursion}
use Rattle.ps_meaning.specs.Shape.{Shape, in_memory_sink}
use Rattle.ps_meaning.specs.Sound.{EachNode}
use Rattle.ps_multiplexers.specs.Multiplexers.{with_multiplexers}
use Rattle.ps_phys.specs.Walks.{Stream, shape_from}

-- the shape that a root shows once multiplexers are there
abbrev pub shared_shape : Shape → ℕ → Shape
shared_shape nodes root = shape_from (with_multiplexers root nodes) root

-- each node reads first ports of nodes before it
abbrev pub ReadFirstPortsBefore : Shape → Type 0
ReadFirstPortsBefore nodes = EachNode nodes (λ n p. AllByRecursion (λ (i : Stream). (i.0 < n) × (i.1 ≡ 0)) p.inputs)

-- the node of this number is a sink, and no other node is
abbrev pub IsOnlySink : ℕ → Shape → Type 0
IsOnlySink root nodes = EachNode nodes (λ n p. (p.kind ≡ in_memory_sink) ↔ (n ≡ root))
