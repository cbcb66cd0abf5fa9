-- The worlds at rest at the four Opens of a run that sums one column beside another, with one worker.
use Rattle.std.specs.Prelude.{ℕ, List, [], ◌∷◌, Option, Some, map, pos}
use Rattle.ps_frame.specs.Tables.{Row}
use Rattle.ps_frame.specs.declared.value.Value.TheVariants as val
use Rattle.ps_ports.specs.declared.port_state.PortState.{PortState}
use Rattle.ps_ports.specs.declared.port_state.PortState.TheVariants as port
use Rattle.ps_turns.specs.Progress.{Progress, giving, spent}
use Rattle.world_runs.specs.Examples.{one_worker, pair, sum_shape, two_columns}
use Rattle.ps_world.specs.Opening.{fresh_node, fresh_pipe, no_progress, opening}
use Rattle.ps_world.specs.World.{Node, Pipe, World}

abbrev pub pipe : (sender port receiver input : ℕ) → PortState → PortState → List (Option (List Row)) → (next : ℕ) → Pipe
pipe s k r i send receive got next = record (fresh_pipe s k r i) { wire = record { sender = s; port = k; receiver = r; input = i; send_state = send; receive_state = receive }; got = got; next = next }

-- the world of the shape with these pipes, where the nodes have this behind them
abbrev pub with_progress : List Node → List Progress → List Node
with_progress [] ps = []
with_progress (n ∷ ns) [] = n ∷ ns
with_progress (n ∷ ns) (p ∷ ps) = record n { progress = p } ∷ with_progress ns ps

abbrev pub at : (phase : ℕ) → List Pipe → List Progress → World
at phase pipes ps = record (opening sum_shape one_worker) { nodes = with_progress (map fresh_node sum_shape) ps; pipes = pipes; phase = phase }

abbrev pub table : List Row
table = two_columns.rows

abbrev pub sum_row : List Row
sum_row = (val.Int64 (pos 6) ∷ []) ∷ []

abbrev pub zipped_rows : List Row
zipped_rows = (val.Int64 (pos 1) ∷ val.Int64 (pos 4) ∷ val.Int64 (pos 6) ∷ []) ∷ (val.Int64 (pos 2) ∷ val.Int64 (pos 5) ∷ val.Int64 (pos 6) ∷ []) ∷ (val.Int64 (pos 3) ∷ val.Int64 (pos 6) ∷ val.Int64 (pos 6) ∷ []) ∷ []

abbrev pub answer_rows : List Row
answer_rows = pair 6 4 ∷ pair 6 5 ∷ pair 6 6 ∷ []

-- the first Open, from the opening by five updates
abbrev pub s1 : World
s1 =
    at 0
    (pipe 0 0 1 0 port.Ready port.Ready [] 0 ∷ pipe 1 1 2 0 port.Ready port.Ready [] 0 ∷ pipe 1 0 3 0 port.Ready port.Blocked [] 0 ∷ pipe 2 0 3 1 port.Blocked port.Blocked [] 0
    ∷ pipe 3 0 4 0 port.Blocked port.Ready [] 0 ∷ pipe 4 0 5 0 port.Blocked port.Ready [] 0 ∷ [])
    []

-- the second: the source is done, the reduce gives, and what port 0 got waits
abbrev pub source_spent : Progress
source_spent = record (no_progress 0) { sent = 1 }

abbrev pub reduce_gives : Progress
reduce_gives = record (no_progress 1) { stage = giving; taken = (Some table ∷ []) ∷ [] }

abbrev pub s2 : World
s2 =
    at 1
    (pipe 0 0 1 0 port.Done port.Done (Some table ∷ []) 1 ∷ pipe 1 1 2 0 port.Done port.Done (Some table ∷ []) 1 ∷ pipe 1 0 3 0 port.Ready port.Ready (Some table ∷ []) 0 ∷ pipe 2 0 3 1 port.Ready port.Ready [] 0
    ∷ pipe 3 0 4 0 port.Ready port.Ready [] 0 ∷ pipe 4 0 5 0 port.Ready port.Ready [] 0 ∷ [])
    (source_spent ∷ no_progress 1 ∷ reduce_gives ∷ [])

-- in that phase the zip only stores its inputs: the one row of the reduce isn't known to broadcast
abbrev pub zip_stores : Progress
zip_stores = record (no_progress 2) { stores = (table ∷ []) ∷ (sum_row ∷ []) ∷ [] }

abbrev pub storing : World
storing = at 2 s2.pipes (source_spent ∷ no_progress 1 ∷ reduce_gives ∷ zip_stores ∷ [])

-- the third: both inputs of the zip are done, so that the one row broadcasts
abbrev pub reduce_spent : Progress
reduce_spent = record reduce_gives { stage = spent; sent = 1 }

abbrev pub s3 : World
s3 =
    at 2
    (pipe 0 0 1 0 port.Done port.Done (Some table ∷ []) 1 ∷ pipe 1 1 2 0 port.Done port.Done (Some table ∷ []) 1 ∷ pipe 1 0 3 0 port.Done port.Done (Some table ∷ []) 1 ∷ pipe 2 0 3 1 port.Done port.Done (Some sum_row ∷ []) 1
    ∷ pipe 3 0 4 0 port.Ready port.Ready [] 0 ∷ pipe 4 0 5 0 port.Ready port.Ready [] 0 ∷ [])
    (source_spent ∷ no_progress 1 ∷ reduce_spent ∷ zip_stores ∷ [])

-- the fourth finds nothing: all is done, and the sink has the rows
abbrev pub s4 : World
s4 =
    at 3
    (pipe 0 0 1 0 port.Done port.Done (Some table ∷ []) 1 ∷ pipe 1 1 2 0 port.Done port.Done (Some table ∷ []) 1 ∷ pipe 1 0 3 0 port.Done port.Done (Some table ∷ []) 1 ∷ pipe 2 0 3 1 port.Done port.Done (Some sum_row ∷ []) 1
    ∷ pipe 3 0 4 0 port.Done port.Done (Some zipped_rows ∷ []) 1 ∷ pipe 4 0 5 0 port.Done port.Done (Some answer_rows ∷ []) 1 ∷ [])
    (source_spent ∷ no_progress 1 ∷ reduce_spent ∷ record zip_stores { sent = 1; booked = 3 } ∷ no_progress 1 ∷ record (no_progress 1) { stores = (answer_rows ∷ []) ∷ [] } ∷ [])
