-- The world after an Open.
use Rattle.std.specs.Prelude.{ℕ, ◌+◌, Bool, true, false, cond, List, [], ◌∷◌, ◌++◌, map, length, Option, Some, None, slice_get}
use Rattle.ps_frame.specs.Causes.{Cause, is_empty}
use Rattle.ps_ports.specs.Phases.{blockers_of, is_in_phase, is_one_of, phase_nodes}
use Rattle.ps_turns.specs.Progress.{is_intensive}
use Rattle.ps_world.specs.World.{Node, Pipe, World, faulty, finished, opened, wires_of}

abbrev pub intensive_node : Option Node → Bool
intensive_node None = false
intensive_node (Some node) = is_intensive node.node.kind node.progress.stage

abbrev pub intensive_at : World → ℕ → Bool
intensive_at w n = intensive_node (slice_get w.nodes n)

abbrev pub blockers_in : World → List ℕ
blockers_in w = blockers_of (length w.nodes) (intensive_at w) (wires_of w)

abbrev pub nodes_of_phase : World → List ℕ
nodes_of_phase w = phase_nodes (length w.nodes) (intensive_at w) (wires_of w)

abbrev pub marked_nodes : List ℕ → ℕ → List Node → List Node
marked_nodes ns n [] = []
marked_nodes ns n (x ∷ xs) = record x { in_phase = is_one_of n ns } ∷ marked_nodes ns (n + 1) xs

-- the next phase is open: nothing but its marks changes
abbrev pub with_phase : World → World
with_phase w =
    record w {
      nodes = marked_nodes (nodes_of_phase w) 0 w.nodes;
      pipes = map (λ (p : Pipe). record p { in_phase = is_in_phase (length w.nodes) (intensive_at w) (wires_of w) p.wire }) w.pipes;
      is_open = true;
    }

-- an Open whose updates led here: without a blocker the world is finished
abbrev pub after_open : World → ℕ → World
after_open w phase = record (cond (is_empty (blockers_in w)) (record w { ending = finished }) (with_phase w)) { phase = phase; journal = w.journal ++ opened phase ∷ [] }

-- an Open in which an update or a fill found a fault
abbrev pub after_fault : World → ℕ → Cause → World
after_fault w phase c = record w { ending = faulty c; phase = phase; journal = w.journal ++ opened phase ∷ [] }
