-- Which node of a graph a physical node became.
use Rattle.std.specs.Prelude.{ℕ, List, map, Option, option_map, unwrap_or}
use Rattle.keyed_slots.specs.Slots.{value_at}
use Rattle.ps_graph.specs.declared.key.GraphNodeKey.{GraphNodeKey}
use Rattle.ps_phys.specs.Placed.{IsPlaced}
use Rattle.ps_phys.specs.Walks.{Stream}

abbrev pub key_numbers : List (Option GraphNodeKey) → List (Option ℕ)
key_numbers keys = map (option_map (λ (key : GraphNodeKey). key.0)) keys

-- each number of the order has the key of its place, and no other number has a key
abbrev pub IsKeyed : List ℕ → List (Option GraphNodeKey) → Type 0
IsKeyed order keys = IsPlaced order (key_numbers keys)

-- the port of a graph that a stream became; of the other node where its node became none
abbrev pub port_of : GraphNodeKey → List (Option GraphNodeKey) → Stream → GraphNodeKey × ℕ
port_of other keys s = (unwrap_or (value_at keys s.0) other, s.1)
