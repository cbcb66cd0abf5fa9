-- The worlds of a run of a left join with two workers: it builds of two right morsels, and probes with two left ones that are handed in out of order.
use Rattle.std.proofs.Common.{ℕ, Bool, true, false, List, [], ◌∷◌, Option, Some, None}
use Rattle.std.specs.Prelude.{get_or, take}
use Rattle.ps_frame.specs.Tables.{Fields, Row}
use Rattle.ps_ports.specs.declared.port_state.PortState.{PortState}
use Rattle.ps_ports.specs.declared.port_state.PortState.TheVariants as port
use Rattle.ps_turns.specs.Progress.{Progress, giving, spent, taking}
use Rattle.ps_turns.specs.Tasks.{Piece, Task, hands_on, keeps, probes}
use Rattle.ps_meaning.specs.declared.options.JoinType.TheVariants as how
use Rattle.ps_world.specs.Opening.{fresh_pipe, no_progress, opening}
use Rattle.ps_world.specs.World.{Node, Pipe, World, finished, running}
use Rattle.world_runs.specs.Joins.{a_left_join, both_fields, left_fields, on_k, right_fields, right_rows, two_workers}
use Rattle.world_runs.specs.JoinRun.{a0, a1, join_journal, join_shape, l0, l1, r0, r1}
use Rattle.world_runs.specs.Nodes.{some_node}

abbrev pub pipe : (sender receiver input : ℕ) → PortState → PortState → List (Option (List Row)) → (next : ℕ) → (in_phase is_closed : Bool) → Pipe
pipe s r i send receive got next a c =
    record (fresh_pipe s 0 r i) { wire = record { sender = s; port = 0; receiver = r; input = i; send_state = send; receive_state = receive }; got = got; next = next; in_phase = a; is_closed = c }

abbrev pub the : (n : ℕ) → Progress → (in_phase is_closed : Bool) → Node
the n progress a c = record { node = get_or join_shape n some_node.node; progress = progress; in_phase = a; is_closed = c }

abbrev pub piece : (node input number worker : ℕ) → Task → List Fields → List (List Row) → Piece
piece n i k worker task ss ts = record { node = n; input = i; number = k; worker = worker; gives = k; task = task; schemas = ss; tables = ts }

-- the world after so many records
abbrev pub at : (records phase : ℕ) → Bool → List Node → List Pipe → List Piece → World
at k phase is_open nodes pipes outs = record { options = two_workers; nodes = nodes; pipes = pipes; outs = outs; phase = phase; is_open = is_open; journal = take k join_journal; ending = running }

abbrev pub w0 : World
w0 = opening join_shape two_workers

abbrev pub s1 : World
s1 = at 0 0 false (the 0 (no_progress 0) false false ∷ the 1 (no_progress 0) false false ∷ the 2 (no_progress 2) false false ∷ the 3 (no_progress 1) false false ∷ [])
    (pipe 0 2 0 port.Ready port.Blocked [] 0 false false ∷ pipe 1 2 1 port.Ready port.Ready [] 0 false false ∷ pipe 2 3 0 port.Blocked port.Ready [] 0 false false ∷ [])
    []

abbrev pub w1 : World
w1 = at 1 1 true (the 0 (no_progress 0) false false ∷ the 1 (no_progress 0) true false ∷ the 2 (no_progress 2) true false ∷ the 3 (no_progress 1) false false ∷ [])
    (pipe 0 2 0 port.Ready port.Blocked [] 0 false false ∷ pipe 1 2 1 port.Ready port.Ready [] 0 true false ∷ pipe 2 3 0 port.Blocked port.Ready [] 0 false false ∷ [])
    []

abbrev pub w2 : World
w2 = at 2 1 true (the 0 (no_progress 0) false false ∷ the 1 (record (no_progress 0) { sent = 1 }) true false ∷ the 2 (no_progress 2) true false ∷ the 3 (no_progress 1) false false ∷ [])
    (pipe 0 2 0 port.Ready port.Blocked [] 0 false false ∷ pipe 1 2 1 port.Ready port.Ready (None ∷ []) 0 true false ∷ pipe 2 3 0 port.Blocked port.Ready [] 0 false false ∷ [])
    (piece 1 0 0 0 hands_on (right_fields ∷ []) (r0 ∷ []) ∷ [])

abbrev pub w3 : World
w3 = at 3 1 true (the 0 (no_progress 0) false false ∷ the 1 (record (no_progress 0) { sent = 2 }) true false ∷ the 2 (no_progress 2) true false ∷ the 3 (no_progress 1) false false ∷ [])
    (pipe 0 2 0 port.Ready port.Blocked [] 0 false false ∷ pipe 1 2 1 port.Ready port.Ready (None ∷ None ∷ []) 0 true false ∷ pipe 2 3 0 port.Blocked port.Ready [] 0 false false ∷ [])
    (piece 1 0 1 1 hands_on (right_fields ∷ []) (r1 ∷ []) ∷ piece 1 0 0 0 hands_on (right_fields ∷ []) (r0 ∷ []) ∷ [])

abbrev pub w4 : World
w4 = at 4 1 true (the 0 (no_progress 0) false false ∷ the 1 (record (no_progress 0) { sent = 2 }) true false ∷ the 2 (no_progress 2) true false ∷ the 3 (no_progress 1) false false ∷ [])
    (pipe 0 2 0 port.Ready port.Blocked [] 0 false false ∷ pipe 1 2 1 port.Ready port.Ready (None ∷ Some r1 ∷ []) 0 true false ∷ pipe 2 3 0 port.Blocked port.Ready [] 0 false false ∷ [])
    (piece 1 0 0 0 hands_on (right_fields ∷ []) (r0 ∷ []) ∷ [])

abbrev pub w5 : World
w5 = at 5 1 true (the 0 (no_progress 0) false false ∷ the 1 (record (no_progress 0) { sent = 2 }) true false ∷ the 2 (no_progress 2) true false ∷ the 3 (no_progress 1) false false ∷ [])
    (pipe 0 2 0 port.Ready port.Blocked [] 0 false false ∷ pipe 1 2 1 port.Ready port.Ready (Some r0 ∷ Some r1 ∷ []) 0 true false ∷ pipe 2 3 0 port.Blocked port.Ready [] 0 false false ∷ [])
    []

abbrev pub w6 : World
w6 = at 6 1 true (the 0 (no_progress 0) false false ∷ the 1 (record (no_progress 0) { sent = 2 }) true true ∷ the 2 (no_progress 2) true false ∷ the 3 (no_progress 1) false false ∷ [])
    (pipe 0 2 0 port.Ready port.Blocked [] 0 false false ∷ pipe 1 2 1 port.Ready port.Ready (Some r0 ∷ Some r1 ∷ []) 0 true true ∷ pipe 2 3 0 port.Blocked port.Ready [] 0 false false ∷ [])
    []

abbrev pub w7 : World
w7 = at 7 1 true (the 0 (no_progress 0) false false ∷ the 1 (record (no_progress 0) { sent = 2 }) true true ∷ the 2 (record (no_progress 2) { stage = taking; taken = [] ∷ (None ∷ []) ∷ [] }) true false ∷ the 3 (no_progress 1) false false ∷ [])
    (pipe 0 2 0 port.Ready port.Blocked [] 0 false false ∷ pipe 1 2 1 port.Ready port.Ready (Some r0 ∷ Some r1 ∷ []) 1 true true ∷ pipe 2 3 0 port.Blocked port.Ready [] 0 false false ∷ [])
    (piece 2 1 0 0 (keeps a_left_join) (right_fields ∷ []) (r0 ∷ []) ∷ [])

abbrev pub w8 : World
w8 = at 8 1 true (the 0 (no_progress 0) false false ∷ the 1 (record (no_progress 0) { sent = 2 }) true true ∷ the 2 (record (no_progress 2) { stage = taking; taken = [] ∷ (None ∷ None ∷ []) ∷ [] }) true false ∷ the 3 (no_progress 1) false false ∷ [])
    (pipe 0 2 0 port.Ready port.Blocked [] 0 false false ∷ pipe 1 2 1 port.Ready port.Ready (Some r0 ∷ Some r1 ∷ []) 2 true true ∷ pipe 2 3 0 port.Blocked port.Ready [] 0 false false ∷ [])
    (piece 2 1 1 1 (keeps a_left_join) (right_fields ∷ []) (r1 ∷ []) ∷ piece 2 1 0 0 (keeps a_left_join) (right_fields ∷ []) (r0 ∷ []) ∷ [])

abbrev pub w9 : World
w9 = at 9 1 true (the 0 (no_progress 0) false false ∷ the 1 (record (no_progress 0) { sent = 2 }) true true ∷ the 2 (record (no_progress 2) { stage = taking; taken = [] ∷ (None ∷ Some r1 ∷ []) ∷ [] }) true false ∷ the 3 (no_progress 1) false false ∷ [])
    (pipe 0 2 0 port.Ready port.Blocked [] 0 false false ∷ pipe 1 2 1 port.Ready port.Ready (Some r0 ∷ Some r1 ∷ []) 2 true true ∷ pipe 2 3 0 port.Blocked port.Ready [] 0 false false ∷ [])
    (piece 2 1 0 0 (keeps a_left_join) (right_fields ∷ []) (r0 ∷ []) ∷ [])

abbrev pub w10 : World
w10 = at 10 1 true (the 0 (no_progress 0) false false ∷ the 1 (record (no_progress 0) { sent = 2 }) true true ∷ the 2 (record (no_progress 2) { stage = taking; taken = [] ∷ (Some r0 ∷ Some r1 ∷ []) ∷ [] }) true false ∷ the 3 (no_progress 1) false false ∷ [])
    (pipe 0 2 0 port.Ready port.Blocked [] 0 false false ∷ pipe 1 2 1 port.Ready port.Ready (Some r0 ∷ Some r1 ∷ []) 2 true true ∷ pipe 2 3 0 port.Blocked port.Ready [] 0 false false ∷ [])
    []

abbrev pub w11 : World
w11 = at 11 1 true (the 0 (no_progress 0) false false ∷ the 1 (record (no_progress 0) { sent = 2 }) true true ∷ the 2 (record (no_progress 2) { stage = taking; taken = [] ∷ (Some r0 ∷ Some r1 ∷ []) ∷ [] }) true true ∷ the 3 (no_progress 1) false false ∷ [])
    (pipe 0 2 0 port.Ready port.Blocked [] 0 false false ∷ pipe 1 2 1 port.Ready port.Ready (Some r0 ∷ Some r1 ∷ []) 2 true true ∷ pipe 2 3 0 port.Blocked port.Ready [] 0 false false ∷ [])
    []

abbrev pub w12 : World
w12 = at 12 1 false (the 0 (no_progress 0) false false ∷ the 1 (record (no_progress 0) { sent = 2 }) false false ∷ the 2 (record (no_progress 2) { stage = taking; taken = [] ∷ (Some r0 ∷ Some r1 ∷ []) ∷ [] }) false false ∷ the 3 (no_progress 1) false false ∷ [])
    (pipe 0 2 0 port.Ready port.Blocked [] 0 false false ∷ pipe 1 2 1 port.Ready port.Ready (Some r0 ∷ Some r1 ∷ []) 2 false false ∷ pipe 2 3 0 port.Blocked port.Ready [] 0 false false ∷ [])
    []

abbrev pub s2 : World
s2 = at 12 1 false (the 0 (no_progress 0) false false ∷ the 1 (record (no_progress 0) { sent = 2 }) false false ∷ the 2 (record (no_progress 2) { stage = giving; taken = [] ∷ (Some r0 ∷ Some r1 ∷ []) ∷ [] }) false false ∷ the 3 (no_progress 1) false false ∷ [])
    (pipe 0 2 0 port.Ready port.Ready [] 0 false false ∷ pipe 1 2 1 port.Done port.Done (Some r0 ∷ Some r1 ∷ []) 2 false false ∷ pipe 2 3 0 port.Ready port.Ready [] 0 false false ∷ [])
    []

abbrev pub w13 : World
w13 = at 13 2 true (the 0 (no_progress 0) true false ∷ the 1 (record (no_progress 0) { sent = 2 }) false false ∷ the 2 (record (no_progress 2) { stage = giving; taken = [] ∷ (Some r0 ∷ Some r1 ∷ []) ∷ [] }) true false ∷ the 3 (no_progress 1) true false ∷ [])
    (pipe 0 2 0 port.Ready port.Ready [] 0 true false ∷ pipe 1 2 1 port.Done port.Done (Some r0 ∷ Some r1 ∷ []) 2 false false ∷ pipe 2 3 0 port.Ready port.Ready [] 0 true false ∷ [])
    []

abbrev pub w14 : World
w14 = at 14 2 true (the 0 (record (no_progress 0) { sent = 1 }) true false ∷ the 1 (record (no_progress 0) { sent = 2 }) false false ∷ the 2 (record (no_progress 2) { stage = giving; taken = [] ∷ (Some r0 ∷ Some r1 ∷ []) ∷ [] }) true false ∷ the 3 (no_progress 1) true false ∷ [])
    (pipe 0 2 0 port.Ready port.Ready (None ∷ []) 0 true false ∷ pipe 1 2 1 port.Done port.Done (Some r0 ∷ Some r1 ∷ []) 2 false false ∷ pipe 2 3 0 port.Ready port.Ready [] 0 true false ∷ [])
    (piece 0 0 0 0 hands_on (left_fields ∷ []) (l0 ∷ []) ∷ [])

abbrev pub w15 : World
w15 = at 15 2 true (the 0 (record (no_progress 0) { sent = 2 }) true false ∷ the 1 (record (no_progress 0) { sent = 2 }) false false ∷ the 2 (record (no_progress 2) { stage = giving; taken = [] ∷ (Some r0 ∷ Some r1 ∷ []) ∷ [] }) true false ∷ the 3 (no_progress 1) true false ∷ [])
    (pipe 0 2 0 port.Ready port.Ready (None ∷ None ∷ []) 0 true false ∷ pipe 1 2 1 port.Done port.Done (Some r0 ∷ Some r1 ∷ []) 2 false false ∷ pipe 2 3 0 port.Ready port.Ready [] 0 true false ∷ [])
    (piece 0 0 1 1 hands_on (left_fields ∷ []) (l1 ∷ []) ∷ piece 0 0 0 0 hands_on (left_fields ∷ []) (l0 ∷ []) ∷ [])

abbrev pub w16 : World
w16 = at 16 2 true (the 0 (record (no_progress 0) { sent = 2 }) true false ∷ the 1 (record (no_progress 0) { sent = 2 }) false false ∷ the 2 (record (no_progress 2) { stage = giving; taken = [] ∷ (Some r0 ∷ Some r1 ∷ []) ∷ [] }) true false ∷ the 3 (no_progress 1) true false ∷ [])
    (pipe 0 2 0 port.Ready port.Ready (Some l0 ∷ None ∷ []) 0 true false ∷ pipe 1 2 1 port.Done port.Done (Some r0 ∷ Some r1 ∷ []) 2 false false ∷ pipe 2 3 0 port.Ready port.Ready [] 0 true false ∷ [])
    (piece 0 0 1 1 hands_on (left_fields ∷ []) (l1 ∷ []) ∷ [])

abbrev pub w17 : World
w17 = at 17 2 true (the 0 (record (no_progress 0) { sent = 2 }) true false ∷ the 1 (record (no_progress 0) { sent = 2 }) false false ∷ the 2 (record (no_progress 2) { stage = giving; taken = [] ∷ (Some r0 ∷ Some r1 ∷ []) ∷ [] }) true false ∷ the 3 (no_progress 1) true false ∷ [])
    (pipe 0 2 0 port.Ready port.Ready (Some l0 ∷ Some l1 ∷ []) 0 true false ∷ pipe 1 2 1 port.Done port.Done (Some r0 ∷ Some r1 ∷ []) 2 false false ∷ pipe 2 3 0 port.Ready port.Ready [] 0 true false ∷ [])
    []

abbrev pub w18 : World
w18 = at 18 2 true (the 0 (record (no_progress 0) { sent = 2 }) true true ∷ the 1 (record (no_progress 0) { sent = 2 }) false false ∷ the 2 (record (no_progress 2) { stage = giving; taken = [] ∷ (Some r0 ∷ Some r1 ∷ []) ∷ [] }) true false ∷ the 3 (no_progress 1) true false ∷ [])
    (pipe 0 2 0 port.Ready port.Ready (Some l0 ∷ Some l1 ∷ []) 0 true true ∷ pipe 1 2 1 port.Done port.Done (Some r0 ∷ Some r1 ∷ []) 2 false false ∷ pipe 2 3 0 port.Ready port.Ready [] 0 true false ∷ [])
    []

abbrev pub w19 : World
w19 = at 19 2 true (the 0 (record (no_progress 0) { sent = 2 }) true true ∷ the 1 (record (no_progress 0) { sent = 2 }) false false ∷ the 2 (record (no_progress 2) { stage = giving; taken = [] ∷ (Some r0 ∷ Some r1 ∷ []) ∷ [] }) true false ∷ the 3 (no_progress 1) true false ∷ [])
    (pipe 0 2 0 port.Ready port.Ready (Some l0 ∷ Some l1 ∷ []) 1 true true ∷ pipe 1 2 1 port.Done port.Done (Some r0 ∷ Some r1 ∷ []) 2 false false ∷ pipe 2 3 0 port.Ready port.Ready (None ∷ []) 0 true false ∷ [])
    (piece 2 0 0 0 (probes a_left_join (on_k how.Left)) both_fields (l0 ∷ right_rows ∷ []) ∷ [])

abbrev pub w20 : World
w20 = at 20 2 true (the 0 (record (no_progress 0) { sent = 2 }) true true ∷ the 1 (record (no_progress 0) { sent = 2 }) false false ∷ the 2 (record (no_progress 2) { stage = giving; taken = [] ∷ (Some r0 ∷ Some r1 ∷ []) ∷ [] }) true false ∷ the 3 (no_progress 1) true false ∷ [])
    (pipe 0 2 0 port.Ready port.Ready (Some l0 ∷ Some l1 ∷ []) 2 true true ∷ pipe 1 2 1 port.Done port.Done (Some r0 ∷ Some r1 ∷ []) 2 false false ∷ pipe 2 3 0 port.Ready port.Ready (None ∷ None ∷ []) 0 true false ∷ [])
    (piece 2 0 1 1 (probes a_left_join (on_k how.Left)) both_fields (l1 ∷ right_rows ∷ []) ∷ piece 2 0 0 0 (probes a_left_join (on_k how.Left)) both_fields (l0 ∷ right_rows ∷ []) ∷ [])

abbrev pub w21 : World
w21 = at 21 2 true (the 0 (record (no_progress 0) { sent = 2 }) true true ∷ the 1 (record (no_progress 0) { sent = 2 }) false false ∷ the 2 (record (no_progress 2) { stage = giving; taken = [] ∷ (Some r0 ∷ Some r1 ∷ []) ∷ [] }) true false ∷ the 3 (no_progress 1) true false ∷ [])
    (pipe 0 2 0 port.Ready port.Ready (Some l0 ∷ Some l1 ∷ []) 2 true true ∷ pipe 1 2 1 port.Done port.Done (Some r0 ∷ Some r1 ∷ []) 2 false false ∷ pipe 2 3 0 port.Ready port.Ready (None ∷ Some a1 ∷ []) 0 true false ∷ [])
    (piece 2 0 0 0 (probes a_left_join (on_k how.Left)) both_fields (l0 ∷ right_rows ∷ []) ∷ [])

abbrev pub w22 : World
w22 = at 22 2 true (the 0 (record (no_progress 0) { sent = 2 }) true true ∷ the 1 (record (no_progress 0) { sent = 2 }) false false ∷ the 2 (record (no_progress 2) { stage = giving; taken = [] ∷ (Some r0 ∷ Some r1 ∷ []) ∷ [] }) true false ∷ the 3 (no_progress 1) true false ∷ [])
    (pipe 0 2 0 port.Ready port.Ready (Some l0 ∷ Some l1 ∷ []) 2 true true ∷ pipe 1 2 1 port.Done port.Done (Some r0 ∷ Some r1 ∷ []) 2 false false ∷ pipe 2 3 0 port.Ready port.Ready (Some a0 ∷ Some a1 ∷ []) 0 true false ∷ [])
    []

abbrev pub w23 : World
w23 = at 23 2 true (the 0 (record (no_progress 0) { sent = 2 }) true true ∷ the 1 (record (no_progress 0) { sent = 2 }) false false ∷ the 2 (record (no_progress 2) { stage = giving; taken = [] ∷ (Some r0 ∷ Some r1 ∷ []) ∷ [] }) true true ∷ the 3 (no_progress 1) true false ∷ [])
    (pipe 0 2 0 port.Ready port.Ready (Some l0 ∷ Some l1 ∷ []) 2 true true ∷ pipe 1 2 1 port.Done port.Done (Some r0 ∷ Some r1 ∷ []) 2 false false ∷ pipe 2 3 0 port.Ready port.Ready (Some a0 ∷ Some a1 ∷ []) 0 true true ∷ [])
    []

abbrev pub w24 : World
w24 = at 24 2 true (the 0 (record (no_progress 0) { sent = 2 }) true true ∷ the 1 (record (no_progress 0) { sent = 2 }) false false ∷ the 2 (record (no_progress 2) { stage = giving; taken = [] ∷ (Some r0 ∷ Some r1 ∷ []) ∷ [] }) true true ∷ the 3 (record (no_progress 1) { stores = (a0 ∷ []) ∷ [] }) true false ∷ [])
    (pipe 0 2 0 port.Ready port.Ready (Some l0 ∷ Some l1 ∷ []) 2 true true ∷ pipe 1 2 1 port.Done port.Done (Some r0 ∷ Some r1 ∷ []) 2 false false ∷ pipe 2 3 0 port.Ready port.Ready (Some a0 ∷ Some a1 ∷ []) 1 true true ∷ [])
    []

abbrev pub w25 : World
w25 = at 25 2 true (the 0 (record (no_progress 0) { sent = 2 }) true true ∷ the 1 (record (no_progress 0) { sent = 2 }) false false ∷ the 2 (record (no_progress 2) { stage = giving; taken = [] ∷ (Some r0 ∷ Some r1 ∷ []) ∷ [] }) true true ∷ the 3 (record (no_progress 1) { stores = (a0 ∷ a1 ∷ []) ∷ [] }) true false ∷ [])
    (pipe 0 2 0 port.Ready port.Ready (Some l0 ∷ Some l1 ∷ []) 2 true true ∷ pipe 1 2 1 port.Done port.Done (Some r0 ∷ Some r1 ∷ []) 2 false false ∷ pipe 2 3 0 port.Ready port.Ready (Some a0 ∷ Some a1 ∷ []) 2 true true ∷ [])
    []

abbrev pub w26 : World
w26 = at 26 2 true (the 0 (record (no_progress 0) { sent = 2 }) true true ∷ the 1 (record (no_progress 0) { sent = 2 }) false false ∷ the 2 (record (no_progress 2) { stage = giving; taken = [] ∷ (Some r0 ∷ Some r1 ∷ []) ∷ [] }) true true ∷ the 3 (record (no_progress 1) { stores = (a0 ∷ a1 ∷ []) ∷ [] }) true true ∷ [])
    (pipe 0 2 0 port.Ready port.Ready (Some l0 ∷ Some l1 ∷ []) 2 true true ∷ pipe 1 2 1 port.Done port.Done (Some r0 ∷ Some r1 ∷ []) 2 false false ∷ pipe 2 3 0 port.Ready port.Ready (Some a0 ∷ Some a1 ∷ []) 2 true true ∷ [])
    []

abbrev pub w27 : World
w27 = at 27 2 false (the 0 (record (no_progress 0) { sent = 2 }) false false ∷ the 1 (record (no_progress 0) { sent = 2 }) false false ∷ the 2 (record (no_progress 2) { stage = giving; taken = [] ∷ (Some r0 ∷ Some r1 ∷ []) ∷ [] }) false false ∷ the 3 (record (no_progress 1) { stores = (a0 ∷ a1 ∷ []) ∷ [] }) false false ∷ [])
    (pipe 0 2 0 port.Ready port.Ready (Some l0 ∷ Some l1 ∷ []) 2 false false ∷ pipe 1 2 1 port.Done port.Done (Some r0 ∷ Some r1 ∷ []) 2 false false ∷ pipe 2 3 0 port.Ready port.Ready (Some a0 ∷ Some a1 ∷ []) 2 false false ∷ [])
    []

abbrev pub s3 : World
s3 = at 27 2 false (the 0 (record (no_progress 0) { sent = 2 }) false false ∷ the 1 (record (no_progress 0) { sent = 2 }) false false ∷ the 2 (record (no_progress 2) { stage = spent; taken = [] ∷ (Some r0 ∷ Some r1 ∷ []) ∷ [] }) false false ∷ the 3 (record (no_progress 1) { stores = (a0 ∷ a1 ∷ []) ∷ [] }) false false ∷ [])
    (pipe 0 2 0 port.Done port.Done (Some l0 ∷ Some l1 ∷ []) 2 false false ∷ pipe 1 2 1 port.Done port.Done (Some r0 ∷ Some r1 ∷ []) 2 false false ∷ pipe 2 3 0 port.Done port.Done (Some a0 ∷ Some a1 ∷ []) 2 false false ∷ [])
    []

abbrev pub w28 : World
w28 = record (at 28 3 false (the 0 (record (no_progress 0) { sent = 2 }) false false ∷ the 1 (record (no_progress 0) { sent = 2 }) false false ∷ the 2 (record (no_progress 2) { stage = spent; taken = [] ∷ (Some r0 ∷ Some r1 ∷ []) ∷ [] }) false false ∷ the 3 (record (no_progress 1) { stores = (a0 ∷ a1 ∷ []) ∷ [] }) false false ∷ [])
    (pipe 0 2 0 port.Done port.Done (Some l0 ∷ Some l1 ∷ []) 2 false false ∷ pipe 1 2 1 port.Done port.Done (Some r0 ∷ Some r1 ∷ []) 2 false false ∷ pipe 2 3 0 port.Done port.Done (Some a0 ∷ Some a1 ∷ []) 2 false false ∷ [])
    []) { ending = finished }
