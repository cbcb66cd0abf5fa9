-- Which part of a graph may run next, in terms of the graph.
use Rattle.std.specs.Prelude.{ℕ, Bool, false, ◌&&◌, ◌||◌, List, Option, Some, None, get_or, length, map, nat_eq, slice_get}
use Rattle.std.specs.List.{filter as kept, list_any}
use Rattle.keyed_slots.specs.Slots.{value_at}
use Rattle.ps_frame.specs.Zip.{below}
use Rattle.ps_ports.specs.Phases.{blockers_of, is_blocker, is_in_phase, is_one_of, most_ready, phase_nodes}
use Rattle.ps_ports.specs.Wires.{Wire, both_ready, wires_out}
use Rattle.ps_graph.specs.declared.graph.Graph.{Graph}
use Rattle.ps_graph.specs.declared.graph.LogicalPipe.{LogicalPipe}
use Rattle.ps_graph.specs.declared.key.GraphNodeKey.{GraphNodeKey}
use Rattle.ps_graph.specs.Shown.{nodes_of, places_from, values, wire_of, wires_of}

-- whether the pipe with a number is there and passes a test
abbrev pub passes_if : (Wire → Bool) → Option LogicalPipe → Bool
passes_if test None = false
passes_if test (Some p) = test (wire_of p)

abbrev pub passes : (Wire → Bool) → List (Option LogicalPipe) → ℕ → Bool
passes test slots k = passes_if test (value_at slots k)

-- whether the node with a number is there and passes a test
abbrev pub holds_if : {N : Type 0} → (N → Bool) → Option N → Bool
holds_if test None = false
holds_if test (Some n) = test n

abbrev pub holds_at : {N : Type 0} → (N → Bool) → List N → ℕ → Bool
holds_at test nodes n = holds_if test (slice_get nodes n)

-- of the memory intensive blockers among the first nodes the one that runs
abbrev pub chosen_below : List Wire → (intensive : ℕ → Bool) → (nodes : ℕ) → Option ℕ
chosen_below ws intensive k = most_ready ws (kept intensive (kept (is_blocker ws) (below k)))

-- whether a node is the one that is named, if one is
abbrev pub is_named : Option ℕ → ℕ → Bool
is_named None n = false
is_named (Some m) n = nat_eq n m

-- whether a wire is ready on both ends and leads to a node that is flagged
abbrev pub feeds_flagged : (flags : List Bool) → Wire → Bool
feeds_flagged flags p = both_ready p && get_or flags p.receiver false

-- whether a node is one of these, or feeds one that is flagged
abbrev pub flag_of : List Wire → (blockers : List ℕ) → (flags : List Bool) → ℕ → Bool
flag_of ws bs flags n = is_one_of n bs || list_any (feeds_flagged flags) (wires_out n ws)

abbrev pub node_numbers : List GraphNodeKey → List ℕ
node_numbers keys = map (λ (key : GraphNodeKey). key.0) keys

module _ {N : Type 0} (intensive : N → Bool) (g : Graph N) where
  -- which nodes are memory intensive, and the blockers of the next phase
  abbrev pub are_intensive : ℕ → Bool
  are_intensive n = holds_at intensive (nodes_of g.nodes.slots) n

  abbrev pub phase_blockers : List ℕ
  phase_blockers = blockers_of (length g.nodes.slots) are_intensive (wires_of g.pipes.slots)

  -- the numbers of the nodes of the next phase, and of its pipes
  abbrev pub runnable_nodes : List ℕ
  runnable_nodes = phase_nodes (length g.nodes.slots) are_intensive (wires_of g.pipes.slots)

  abbrev pub runnable_pipes : List ℕ
  runnable_pipes = places_from 0 (λ p. is_in_phase (length g.nodes.slots) are_intensive (wires_of g.pipes.slots) (wire_of p)) (values g.pipes.slots)
