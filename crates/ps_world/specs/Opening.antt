-- The opening of a shape, and the worlds that it reaches.
use Rattle.std.specs.Prelude.{ℕ, ◌+◌, false, List, [], ◌∷◌, ◌++◌, map, length, None, replicate}
use Rattle.ps_frame.specs.Functions.{Functions}
use Rattle.ps_ports.specs.declared.port_state.PortState.TheVariants as port
use Rattle.ps_turns.specs.Progress.{Progress, taking}
use Rattle.ps_options.specs.declared.options.Options.{Options}
use Rattle.ps_meaning.specs.Shape.{PhysicalNode, Shape}
use Rattle.ps_world.specs.World.{Pipe, Node, Record, running, World}
use Rattle.ps_world.specs.Step.{Replays}

abbrev pub fresh_pipe : (sender port receiver input : ℕ) → Pipe
fresh_pipe s k n i =
    record { wire = record { sender = s; port = k; receiver = n; input = i; send_state = port.Blocked; receive_state = port.Blocked }; got = []; next = 0; in_phase = false; is_closed = false; is_dropped = false; is_unread = false }

-- Every pipe blocked on both ends, nothing got, nothing done.
abbrev pub pipes_to : ℕ → ℕ → List (ℕ × ℕ) → List Pipe
pipes_to n i [] = []
pipes_to n i (q ∷ qs) = fresh_pipe q.0 q.1 n i ∷ pipes_to n (i + 1) qs

abbrev pub pipes_from : Shape → ℕ → List Pipe
pipes_from [] n = []
pipes_from (p ∷ ps) n = pipes_to n 0 p.inputs ++ pipes_from ps (n + 1)

abbrev pub no_progress : (inputs : ℕ) → Progress
no_progress k = record { stage = taking; sent = 0; booked = 0; stores = replicate k []; taken = replicate k []; made = None; lists = [] }

abbrev pub fresh_node : PhysicalNode → Node
fresh_node p = record { node = p; progress = no_progress (length p.inputs); in_phase = false; is_closed = false }

abbrev pub opening : Shape → Options → World
opening shape o = record { options = o; nodes = map fresh_node shape; pipes = pipes_from shape 0; outs = []; phase = 0; is_open = false; journal = []; ending = running }

-- a world that the opening reaches, by some list of steps
abbrev pub Reaches : Functions → Shape → Options → World → Type 0
Reaches F shape o w = (journal : List Record) × Replays F (opening shape o) journal w
