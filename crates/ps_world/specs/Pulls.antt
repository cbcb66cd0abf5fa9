-- A pull: into a store, or into each open port of a multiplexer.
use Rattle.std.specs.Prelude.{ℕ, Bool, not, cond, ◌&&◌, ◌||◌, List, [], ◌∷◌, ◌++◌, map, nat_eq, slice_set}
use Rattle.ps_frame.specs.Tables.{Row}
use Rattle.ps_ports.specs.Ports.{is_done}
use Rattle.ps_turns.specs.Progress.{is_multiplexer}
use Rattle.ps_turns.specs.Pulls.{after_store, passes_limit, wants}
use Rattle.ps_turns.specs.Results.{rows_fault}
use Rattle.ps_world.specs.World.{Node, Pipe, World, faulty, heads_of, pipes_in, pulled}
use Rattle.ps_world.specs.Pipes.{change_pipes, is_input, taken, with_morsel}

abbrev pub is_open_port : ℕ → Pipe → Bool
is_open_port n p = nat_eq p.wire.sender n && (not (is_done p.wire.receive_state) && not p.is_dropped)

-- closed in this phase; what is done counts as closed in each
abbrev pub closed_inputs : World → ℕ → List Bool
closed_inputs w n = map (λ (p : Pipe). p.is_closed || is_done p.wire.send_state) (pipes_in w n)

abbrev pub wants_input : World → ℕ → Node → ℕ → Bool
wants_input w n node i = wants node.node.kind (heads_of w n node) (closed_inputs w n) i

abbrev pub after_pull : World → ℕ → ℕ → Node → Pipe → List Row → World
after_pull w n i node p m =
    let taken_pipes = change_pipes (is_input n i) taken w.pipes in
    let progress' = cond (is_multiplexer node.node.kind) node.progress (after_store node.node.kind i m node.progress) in
    record w {
      nodes = slice_set w.nodes n (record node { progress = progress' });
      pipes = cond (is_multiplexer node.node.kind) (change_pipes (is_open_port n) (with_morsel m) taken_pipes) taken_pipes;
      journal = w.journal ++ pulled n i p.next ∷ [];
      ending = cond (passes_limit node.node.kind i progress') (faulty (rows_fault node.node)) w.ending;
    }
