-- A node of a world by its number, and an update that leaves it as it is.
use Rattle.std.specs.Prelude.{ℕ, [], get_or}
use Rattle.ps_meaning.specs.Shape.{in_memory_sink}
use Rattle.ps_world.specs.Opening.{fresh_node}
use Rattle.ps_world.specs.Updates.{updated}
use Rattle.ps_world.specs.World.{Node, World}

abbrev pub some_node : Node
some_node = fresh_node (record { kind = in_memory_sink; schema = []; origin = 0; inputs = [] })

abbrev pub node_of : World → ℕ → Node
node_of w n = get_or w.nodes n some_node

-- an update that leaves the node as it is
abbrev pub update : World → ℕ → World
update w n = updated w n (node_of w n) (node_of w n).progress
