-- Which streams are taken once multiplexers are there.
use Rattle.std.specs.Prelude.{◌≡◌, ℕ, zero, suc, ◌+◌, ◌<◌, ◌==◌, ◌&&◌, List, [], ◌∷◌, ◌++◌, flat_map, length, if◌then◌else◌}
use Rattle.std.specs.List.{AllByRecursion}
use Rattle.ps_meaning.specs.Shape.{Shape}
use Rattle.ps_multiplexers.specs.Multiplexers.{shared, walk_of, with_multiplexers}
use Rattle.ps_phys.specs.Walks.{Stream, node_at}

-- how often a stream stands in a list
abbrev pub takes : Stream → List Stream → ℕ
takes s [] = 0
takes s (t ∷ ts) = (if (t.0 == s.0) && (t.1 == s.1) then 1 else 0) + takes s ts

-- so many numbers, from the first one on
abbrev pub numbers_from : ℕ → ℕ → List ℕ
numbers_from first zero = []
numbers_from first (suc k) = first ∷ numbers_from (first + 1) k

abbrev pub streams_of_nodes : Shape → List ℕ → List Stream
streams_of_nodes nodes ns = flat_map (λ n. (node_at nodes n).inputs) ns

-- what the nodes of the walk take, and the multiplexers
abbrev pub streams_after : ℕ → Shape → List Stream
streams_after root nodes =
    streams_of_nodes (with_multiplexers root nodes) (walk_of nodes root) ++ streams_of_nodes (with_multiplexers root nodes) (numbers_from (length nodes) (length (shared nodes root)))

-- each node reads first ports of nodes of the list
abbrev pub ReadsFirstPorts : Shape → Type 0
ReadsFirstPorts nodes = (n : ℕ) → AllByRecursion (λ (i : Stream). (i.0 < length nodes) × (i.1 ≡ 0)) (node_at nodes n).inputs
