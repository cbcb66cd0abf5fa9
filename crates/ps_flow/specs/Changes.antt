-- How one node of a graph is replaced by what a call made of it.
use Rattle.std.specs.Prelude.{◌≡◌, ℕ, List, Option, Some, slice_set}
use Rattle.ps_graph.specs.declared.graph.GraphNode.{GraphNode}

-- It keeps its pipes.
pub record ChangedAt {N : Type 0} (Change : N → N → Type 0) (node : GraphNode N) (number : ℕ) (slots slots' : List (Option (GraphNode N))) : Type 0 where
  pub after : N
  pub next : slots' ≡ slice_set slots number (Some (record node { compute = after }))
  pub change : Change node.compute after
