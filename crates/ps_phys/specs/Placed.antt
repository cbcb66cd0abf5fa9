-- Places of nodes in a map, and the lines of nodes whose inputs are told by it.
use Rattle.std.specs.Prelude.{◌≡◌, ℕ, ◌<◌, List, map, length, Option, MatchOption, unwrap_or}
use Rattle.keyed_slots.specs.Slots.{value_at}
use Rattle.ps_meaning.specs.Shape.{PhysicalNode}
use Rattle.ps_phys.specs.Walks.{Stream, place_in}

-- an input by the place of its node, or by the number of places where its node has none
abbrev pub placed : List (Option ℕ) → ℕ → Stream → Stream
placed places count i = (unwrap_or (value_at places i.0) count, i.1)

abbrev pub placed_node : List (Option ℕ) → ℕ → PhysicalNode → PhysicalNode
placed_node places count p = record p { inputs = map (placed places count) p.inputs }

-- each number of a list has its place, and no other one has a place
abbrev pub IsPlaced : List ℕ → List (Option ℕ) → Type 0
IsPlaced xs places = (n : ℕ) → MatchOption (value_at places n) (place_in xs n ≡ length xs) (λ p. (place_in xs n ≡ p) × (p < length xs))
