-- How a step changes pipes, what a node has behind it, and which pipes are dropped.
use Rattle.std.specs.Prelude.{ℕ, zero, suc, ◌+◌, Bool, true, false, cond, ◌&&◌, List, [], ◌∷◌, ◌++◌, map, length, Option, Some, None, nat_eq, slice_get, slice_set}
use Rattle.ps_frame.specs.Tables.{Row}
use Rattle.ps_turns.specs.Progress.{Progress}
use Rattle.ps_meaning.specs.Shape.{PhysicalKind, zip_node}
use Rattle.ps_world.specs.World.{Node, Pipe, World, is_cut_off}

abbrev pub change_pipes : (Pipe → Bool) → (Pipe → Pipe) → List Pipe → List Pipe
change_pipes test f ps = map (λ p. cond (test p) (f p) p) ps

abbrev pub is_input : ℕ → ℕ → Pipe → Bool
is_input n i p = nat_eq p.wire.receiver n && nat_eq p.wire.input i

-- the next morsel is taken
abbrev pub taken : Pipe → Pipe
taken p = record p { next = p.next + 1 }

-- a place for the answer to a claim, and the answer in its place
abbrev pub with_place : Pipe → Pipe
with_place p = record p { got = p.got ++ None ∷ [] }

abbrev pub with_answer : ℕ → List Row → Pipe → Pipe
with_answer k rs p = cond p.is_dropped p (record p { got = slice_set p.got k (Some rs) })

-- a morsel that comes at once
abbrev pub with_morsel : List Row → Pipe → Pipe
with_morsel rs p = cond p.is_dropped p (record p { got = p.got ++ Some rs ∷ [] })

abbrev pub dropped_pipe : Pipe → Pipe
dropped_pipe p = record p { is_dropped = true }

abbrev pub put_progress : Option Node → ℕ → Progress → World → World
put_progress None n progress w = w
put_progress (Some node) n progress w = record w { nodes = slice_set w.nodes n (record node { progress = progress }) }

abbrev pub with_progress : ℕ → Progress → World → World
with_progress n progress w = put_progress (slice_get w.nodes n) n progress w

-- a zip without its heads
abbrev pub without_heads : PhysicalKind → Node → Node
without_heads (zip_node extend) node = record node { progress = record node.progress { stores = map (λ ms. []) node.progress.stores } }
without_heads _ node = node

abbrev pub put_without_heads : Option Node → ℕ → List Node → List Node
put_without_heads None n nodes = nodes
put_without_heads (Some node) n nodes = slice_set nodes n (without_heads node.node.kind node)

abbrev pub heads_lost : ℕ → List Node → List Node
heads_lost n nodes = put_without_heads (slice_get nodes n) n nodes

-- Where all that leaves a node is dropped, so are its inputs, and a zip loses its heads: from the last node to the first.
abbrev pub drop_if : Bool → ℕ → World → World
drop_if true n w = record w { nodes = heads_lost n w.nodes; pipes = change_pipes (λ p. nat_eq p.wire.receiver n && p.in_phase) dropped_pipe w.pipes }
drop_if false n w = w

abbrev pub drop_at : World → ℕ → World
drop_at w n = drop_if (is_cut_off w n) n w

abbrev pub drops_from : World → ℕ → World
drops_from w zero = w
drops_from w (suc n) = drops_from (drop_at w n) n

abbrev pub with_drops : World → World
with_drops w = drops_from w (length w.nodes)
