-- The readers of the ports of nodes.
use Rattle.std.specs.Prelude.{◌≡◌, ℕ, ◌<◌, ◌==◌, List, [], map, filter as kept, get_or, length}
use Rattle.std.specs.List.{count_by}
use Rattle.ps_meaning.specs.Shape.{PhysicalKind}
use Rattle.ps_meaning.specs.Sound.{HasReaders}

-- the ports of a node that are read, in the order of the inputs
abbrev pub ports_read : ℕ → List (ℕ × ℕ) → List ℕ
ports_read n inputs = map (λ (i : ℕ × ℕ). i.1) (kept (λ (i : ℕ × ℕ). i.0 == n) inputs)

-- of so many nodes each has its ports beside its number
abbrev pub AreTold : List (ℕ × ℕ) → ℕ → List (List ℕ) → Type 0
AreTold inputs nodes readers = (length readers ≡ nodes) × ((n : ℕ) → n < nodes → get_or readers n [] ≡ ports_read n inputs)

-- a node of the kind may have as many readers as these ports, and each port from 0 on has one
abbrev pub IsReadAs : PhysicalKind → List ℕ → Type 0
IsReadAs kind ports = HasReaders kind (length ports) × ((port : ℕ) → port < length ports → count_by (λ q. q == port) ports ≡ 1)
