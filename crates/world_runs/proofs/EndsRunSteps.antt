-- The worlds of that run, written out, and its steps.
use Rattle.std.proofs.Common.{◌≡◌, ℕ, Bool, true, false, List, [], ◌∷◌, Some, None, refl, inl, inr, arith}
use Rattle.std.specs.Prelude.{nat_eq, take}
use Rattle.ps_frame.specs.Functions.{Functions}
use Rattle.ps_ports.specs.declared.port_state.PortState.TheVariants as port
use Rattle.ps_turns.specs.Progress.{giving, spent}
use Rattle.ps_turns.specs.Tasks.{Piece, good, hands_on, rows}
use Rattle.ps_world.specs.Claims.{claim_at}
use Rattle.ps_world.specs.Opening.{no_progress, opening}
use Rattle.ps_world.specs.Step.{Replays, Steps, settles}
use Rattle.ps_world.specs.Updates.{IsSettled, Updates, no_update}
use Rattle.ps_world.specs.World.{Node, Pipe, World, claimed, closed, ended, finished, handed_in, opened, pulled, running}
use Rattle.world_runs.proofs.Writing.{both_none, get_claim, piece, pipe, same, settled_by, the, turned}
use Rattle.world_runs.specs.Examples.{Leaves, number, options, a_schema}
use Rattle.world_runs.specs.Nodes.{node_of}
use Rattle.world_runs.specs.SliceRun.{one_by_one}
use Rattle.world_runs.specs.EndsRun.{ends_journal, ends_shape}

-- the world after so many records
abbrev at : (records phase : ℕ) → Bool → List Node → List Pipe → List Piece → World
at k phase is_open nodes pipes outs = record { options = one_by_one; nodes = nodes; pipes = pipes; outs = outs; phase = phase; is_open = is_open; journal = take k ends_journal; ending = running }

abbrev pub w0 : World
w0 = opening ends_shape one_by_one

abbrev pub s1 : World
s1 =
    at 0 0 false
    (the ends_shape 0 (no_progress 0) false false ∷ the ends_shape 1 (no_progress 1) false false ∷ the ends_shape 2 (no_progress 1) false false ∷ [])
    (pipe 0 0 1 0 port.Ready port.Ready [] 0 false false ∷ pipe 1 0 2 0 port.Blocked port.Ready [] 0 false false ∷ [])
    []

abbrev pub w1 : World
w1 =
    at 1 1 true
    (the ends_shape 0 (no_progress 0) true false ∷ the ends_shape 1 (no_progress 1) true false ∷ the ends_shape 2 (no_progress 1) false false ∷ [])
    (pipe 0 0 1 0 port.Ready port.Ready [] 0 true false ∷ pipe 1 0 2 0 port.Blocked port.Ready [] 0 false false ∷ [])
    []

abbrev pub w2 : World
w2 =
    at 2 1 true
    (the ends_shape 0 (record (no_progress 0) { sent = 1 }) true false ∷ the ends_shape 1 (no_progress 1) true false ∷ the ends_shape 2 (no_progress 1) false false ∷ [])
    (pipe 0 0 1 0 port.Ready port.Ready (None ∷ []) 0 true false ∷ pipe 1 0 2 0 port.Blocked port.Ready [] 0 false false ∷ [])
    (piece 0 0 0 0 0 (hands_on) (a_schema ∷ []) (((number 1 ∷ []) ∷ []) ∷ []) ∷ [])

abbrev pub w3 : World
w3 =
    at 3 1 true
    (the ends_shape 0 (record (no_progress 0) { sent = 1 }) true false ∷ the ends_shape 1 (no_progress 1) true false ∷ the ends_shape 2 (no_progress 1) false false ∷ [])
    (pipe 0 0 1 0 port.Ready port.Ready (Some ((number 1 ∷ []) ∷ []) ∷ []) 0 true false ∷ pipe 1 0 2 0 port.Blocked port.Ready [] 0 false false ∷ [])
    []

abbrev pub w4 : World
w4 =
    at 4 1 true
    (the ends_shape 0 (record (no_progress 0) { sent = 2 }) true false ∷ the ends_shape 1 (no_progress 1) true false ∷ the ends_shape 2 (no_progress 1) false false ∷ [])
    (pipe 0 0 1 0 port.Ready port.Ready (Some ((number 1 ∷ []) ∷ []) ∷ None ∷ []) 0 true false ∷ pipe 1 0 2 0 port.Blocked port.Ready [] 0 false false ∷ [])
    (piece 0 0 1 0 1 (hands_on) (a_schema ∷ []) (((number 2 ∷ []) ∷ []) ∷ []) ∷ [])

abbrev pub w5 : World
w5 =
    at 5 1 true
    (the ends_shape 0 (record (no_progress 0) { sent = 2 }) true false ∷ the ends_shape 1 (no_progress 1) true false ∷ the ends_shape 2 (no_progress 1) false false ∷ [])
    (pipe 0 0 1 0 port.Ready port.Ready (Some ((number 1 ∷ []) ∷ []) ∷ Some ((number 2 ∷ []) ∷ []) ∷ []) 0 true false ∷ pipe 1 0 2 0 port.Blocked port.Ready [] 0 false false ∷ [])
    []

abbrev pub w6 : World
w6 =
    at 6 1 true
    (the ends_shape 0 (record (no_progress 0) { sent = 3 }) true false ∷ the ends_shape 1 (no_progress 1) true false ∷ the ends_shape 2 (no_progress 1) false false ∷ [])
    (pipe 0 0 1 0 port.Ready port.Ready (Some ((number 1 ∷ []) ∷ []) ∷ Some ((number 2 ∷ []) ∷ []) ∷ None ∷ []) 0 true false ∷ pipe 1 0 2 0 port.Blocked port.Ready [] 0 false false ∷ [])
    (piece 0 0 2 0 2 (hands_on) (a_schema ∷ []) (((number 3 ∷ []) ∷ []) ∷ []) ∷ [])

abbrev pub w7 : World
w7 =
    at 7 1 true
    (the ends_shape 0 (record (no_progress 0) { sent = 3 }) true false ∷ the ends_shape 1 (no_progress 1) true false ∷ the ends_shape 2 (no_progress 1) false false ∷ [])
    (pipe 0 0 1 0 port.Ready port.Ready (Some ((number 1 ∷ []) ∷ []) ∷ Some ((number 2 ∷ []) ∷ []) ∷ Some ((number 3 ∷ []) ∷ []) ∷ []) 0 true false ∷ pipe 1 0 2 0 port.Blocked port.Ready [] 0 false false ∷ [])
    []

abbrev pub w8 : World
w8 =
    at 8 1 true
    (the ends_shape 0 (record (no_progress 0) { sent = 4 }) true false ∷ the ends_shape 1 (no_progress 1) true false ∷ the ends_shape 2 (no_progress 1) false false ∷ [])
    (pipe 0 0 1 0 port.Ready port.Ready (Some ((number 1 ∷ []) ∷ []) ∷ Some ((number 2 ∷ []) ∷ []) ∷ Some ((number 3 ∷ []) ∷ []) ∷ None ∷ []) 0 true false ∷ pipe 1 0 2 0 port.Blocked port.Ready [] 0 false false ∷ [])
    (piece 0 0 3 0 3 (hands_on) (a_schema ∷ []) (((number 4 ∷ []) ∷ []) ∷ []) ∷ [])

abbrev pub w9 : World
w9 =
    at 9 1 true
    (the ends_shape 0 (record (no_progress 0) { sent = 4 }) true false ∷ the ends_shape 1 (no_progress 1) true false ∷ the ends_shape 2 (no_progress 1) false false ∷ [])
    (pipe 0 0 1 0 port.Ready port.Ready (Some ((number 1 ∷ []) ∷ []) ∷ Some ((number 2 ∷ []) ∷ []) ∷ Some ((number 3 ∷ []) ∷ []) ∷ Some ((number 4 ∷ []) ∷ []) ∷ []) 0 true false ∷ pipe 1 0 2 0 port.Blocked port.Ready [] 0 false false ∷ [])
    []

abbrev pub w10 : World
w10 =
    at 10 1 true
    (the ends_shape 0 (record (no_progress 0) { sent = 4 }) true false ∷ the ends_shape 1 (record (no_progress 1) { booked = 1; stores = (((number 1 ∷ []) ∷ []) ∷ []) ∷ [] }) true false ∷ the ends_shape 2 (no_progress 1) false false ∷ [])
    (pipe 0 0 1 0 port.Ready port.Ready (Some ((number 1 ∷ []) ∷ []) ∷ Some ((number 2 ∷ []) ∷ []) ∷ Some ((number 3 ∷ []) ∷ []) ∷ Some ((number 4 ∷ []) ∷ []) ∷ []) 1 true false ∷ pipe 1 0 2 0 port.Blocked port.Ready [] 0 false false ∷ [])
    []

abbrev pub w11 : World
w11 =
    at 11 1 true
    (the ends_shape 0 (record (no_progress 0) { sent = 4 }) true false ∷ the ends_shape 1 (record (no_progress 1) { booked = 2; stores = (((number 1 ∷ []) ∷ []) ∷ ((number 2 ∷ []) ∷ []) ∷ []) ∷ [] }) true false ∷ the ends_shape 2 (no_progress 1) false false ∷ [])
    (pipe 0 0 1 0 port.Ready port.Ready (Some ((number 1 ∷ []) ∷ []) ∷ Some ((number 2 ∷ []) ∷ []) ∷ Some ((number 3 ∷ []) ∷ []) ∷ Some ((number 4 ∷ []) ∷ []) ∷ []) 2 true false ∷ pipe 1 0 2 0 port.Blocked port.Ready [] 0 false false ∷ [])
    []

abbrev pub w12 : World
w12 =
    at 12 1 true
    (the ends_shape 0 (record (no_progress 0) { sent = 4 }) true false ∷ the ends_shape 1 (record (no_progress 1) { booked = 3; stores = (((number 2 ∷ []) ∷ []) ∷ ((number 3 ∷ []) ∷ []) ∷ []) ∷ [] }) true false ∷ the ends_shape 2 (no_progress 1) false false ∷ [])
    (pipe 0 0 1 0 port.Ready port.Ready (Some ((number 1 ∷ []) ∷ []) ∷ Some ((number 2 ∷ []) ∷ []) ∷ Some ((number 3 ∷ []) ∷ []) ∷ Some ((number 4 ∷ []) ∷ []) ∷ []) 3 true false ∷ pipe 1 0 2 0 port.Blocked port.Ready [] 0 false false ∷ [])
    []

abbrev pub w13 : World
w13 =
    at 13 1 true
    (the ends_shape 0 (record (no_progress 0) { sent = 4 }) true false ∷ the ends_shape 1 (record (no_progress 1) { booked = 4; stores = (((number 3 ∷ []) ∷ []) ∷ ((number 4 ∷ []) ∷ []) ∷ []) ∷ [] }) true false ∷ the ends_shape 2 (no_progress 1) false false ∷ [])
    (pipe 0 0 1 0 port.Ready port.Ready (Some ((number 1 ∷ []) ∷ []) ∷ Some ((number 2 ∷ []) ∷ []) ∷ Some ((number 3 ∷ []) ∷ []) ∷ Some ((number 4 ∷ []) ∷ []) ∷ []) 4 true false ∷ pipe 1 0 2 0 port.Blocked port.Ready [] 0 false false ∷ [])
    []

abbrev pub w14 : World
w14 =
    at 14 1 true
    (the ends_shape 0 (record (no_progress 0) { sent = 4 }) true true ∷ the ends_shape 1 (record (no_progress 1) { booked = 4; stores = (((number 3 ∷ []) ∷ []) ∷ ((number 4 ∷ []) ∷ []) ∷ []) ∷ [] }) true false ∷ the ends_shape 2 (no_progress 1) false false ∷ [])
    (pipe 0 0 1 0 port.Ready port.Ready (Some ((number 1 ∷ []) ∷ []) ∷ Some ((number 2 ∷ []) ∷ []) ∷ Some ((number 3 ∷ []) ∷ []) ∷ Some ((number 4 ∷ []) ∷ []) ∷ []) 4 true true ∷ pipe 1 0 2 0 port.Blocked port.Ready [] 0 false false ∷ [])
    []

abbrev pub w15 : World
w15 =
    at 15 1 true
    (the ends_shape 0 (record (no_progress 0) { sent = 4 }) true true ∷ the ends_shape 1 (record (no_progress 1) { booked = 4; stores = (((number 3 ∷ []) ∷ []) ∷ ((number 4 ∷ []) ∷ []) ∷ []) ∷ [] }) true true ∷ the ends_shape 2 (no_progress 1) false false ∷ [])
    (pipe 0 0 1 0 port.Ready port.Ready (Some ((number 1 ∷ []) ∷ []) ∷ Some ((number 2 ∷ []) ∷ []) ∷ Some ((number 3 ∷ []) ∷ []) ∷ Some ((number 4 ∷ []) ∷ []) ∷ []) 4 true true ∷ pipe 1 0 2 0 port.Blocked port.Ready [] 0 false false ∷ [])
    []

abbrev pub w16 : World
w16 =
    at 16 1 false
    (the ends_shape 0 (record (no_progress 0) { sent = 4 }) false false ∷ the ends_shape 1 (record (no_progress 1) { booked = 4; stores = (((number 3 ∷ []) ∷ []) ∷ ((number 4 ∷ []) ∷ []) ∷ []) ∷ [] }) false false ∷ the ends_shape 2 (no_progress 1) false false ∷ [])
    (pipe 0 0 1 0 port.Ready port.Ready (Some ((number 1 ∷ []) ∷ []) ∷ Some ((number 2 ∷ []) ∷ []) ∷ Some ((number 3 ∷ []) ∷ []) ∷ Some ((number 4 ∷ []) ∷ []) ∷ []) 4 false false ∷ pipe 1 0 2 0 port.Blocked port.Ready [] 0 false false ∷ [])
    []

abbrev pub s2 : World
s2 =
    at 16 1 false
    (the ends_shape 0 (record (no_progress 0) { sent = 4 }) false false ∷ the ends_shape 1 (record (no_progress 1) { stage = giving; booked = 4; stores = (((number 3 ∷ []) ∷ []) ∷ ((number 4 ∷ []) ∷ []) ∷ []) ∷ []; made = Some ((number 3 ∷ []) ∷ []) }) false false ∷ the ends_shape 2 (no_progress 1) false false ∷ [])
    (pipe 0 0 1 0 port.Done port.Done (Some ((number 1 ∷ []) ∷ []) ∷ Some ((number 2 ∷ []) ∷ []) ∷ Some ((number 3 ∷ []) ∷ []) ∷ Some ((number 4 ∷ []) ∷ []) ∷ []) 4 false false ∷ pipe 1 0 2 0 port.Ready port.Ready [] 0 false false ∷ [])
    []

abbrev pub w17 : World
w17 =
    at 17 2 true
    (the ends_shape 0 (record (no_progress 0) { sent = 4 }) false false ∷ the ends_shape 1 (record (no_progress 1) { stage = giving; booked = 4; stores = (((number 3 ∷ []) ∷ []) ∷ ((number 4 ∷ []) ∷ []) ∷ []) ∷ []; made = Some ((number 3 ∷ []) ∷ []) }) true false ∷ the ends_shape 2 (no_progress 1) true false ∷ [])
    (pipe 0 0 1 0 port.Done port.Done (Some ((number 1 ∷ []) ∷ []) ∷ Some ((number 2 ∷ []) ∷ []) ∷ Some ((number 3 ∷ []) ∷ []) ∷ Some ((number 4 ∷ []) ∷ []) ∷ []) 4 false false ∷ pipe 1 0 2 0 port.Ready port.Ready [] 0 true false ∷ [])
    []

abbrev pub w18 : World
w18 =
    at 18 2 true
    (the ends_shape 0 (record (no_progress 0) { sent = 4 }) false false ∷ the ends_shape 1 (record (no_progress 1) { stage = giving; sent = 1; booked = 4; stores = (((number 3 ∷ []) ∷ []) ∷ ((number 4 ∷ []) ∷ []) ∷ []) ∷ []; made = Some ((number 3 ∷ []) ∷ []) }) true false ∷ the ends_shape 2 (no_progress 1) true false ∷ [])
    (pipe 0 0 1 0 port.Done port.Done (Some ((number 1 ∷ []) ∷ []) ∷ Some ((number 2 ∷ []) ∷ []) ∷ Some ((number 3 ∷ []) ∷ []) ∷ Some ((number 4 ∷ []) ∷ []) ∷ []) 4 false false ∷ pipe 1 0 2 0 port.Ready port.Ready (None ∷ []) 0 true false ∷ [])
    (piece 1 0 0 0 0 (hands_on) (a_schema ∷ []) (((number 3 ∷ []) ∷ []) ∷ []) ∷ [])

abbrev pub w19 : World
w19 =
    at 19 2 true
    (the ends_shape 0 (record (no_progress 0) { sent = 4 }) false false ∷ the ends_shape 1 (record (no_progress 1) { stage = giving; sent = 1; booked = 4; stores = (((number 3 ∷ []) ∷ []) ∷ ((number 4 ∷ []) ∷ []) ∷ []) ∷ []; made = Some ((number 3 ∷ []) ∷ []) }) true false ∷ the ends_shape 2 (no_progress 1) true false ∷ [])
    (pipe 0 0 1 0 port.Done port.Done (Some ((number 1 ∷ []) ∷ []) ∷ Some ((number 2 ∷ []) ∷ []) ∷ Some ((number 3 ∷ []) ∷ []) ∷ Some ((number 4 ∷ []) ∷ []) ∷ []) 4 false false ∷ pipe 1 0 2 0 port.Ready port.Ready (Some ((number 3 ∷ []) ∷ []) ∷ []) 0 true false ∷ [])
    []

abbrev pub w20 : World
w20 =
    at 20 2 true
    (the ends_shape 0 (record (no_progress 0) { sent = 4 }) false false ∷ the ends_shape 1 (record (no_progress 1) { stage = giving; sent = 1; booked = 4; stores = (((number 3 ∷ []) ∷ []) ∷ ((number 4 ∷ []) ∷ []) ∷ []) ∷ []; made = Some ((number 3 ∷ []) ∷ []) }) true false ∷ the ends_shape 2 (record (no_progress 1) { stores = (((number 3 ∷ []) ∷ []) ∷ []) ∷ [] }) true false ∷ [])
    (pipe 0 0 1 0 port.Done port.Done (Some ((number 1 ∷ []) ∷ []) ∷ Some ((number 2 ∷ []) ∷ []) ∷ Some ((number 3 ∷ []) ∷ []) ∷ Some ((number 4 ∷ []) ∷ []) ∷ []) 4 false false ∷ pipe 1 0 2 0 port.Ready port.Ready (Some ((number 3 ∷ []) ∷ []) ∷ []) 1 true false ∷ [])
    []

abbrev pub w21 : World
w21 =
    at 21 2 true
    (the ends_shape 0 (record (no_progress 0) { sent = 4 }) false false ∷ the ends_shape 1 (record (no_progress 1) { stage = giving; sent = 1; booked = 4; stores = (((number 3 ∷ []) ∷ []) ∷ ((number 4 ∷ []) ∷ []) ∷ []) ∷ []; made = Some ((number 3 ∷ []) ∷ []) }) true true ∷ the ends_shape 2 (record (no_progress 1) { stores = (((number 3 ∷ []) ∷ []) ∷ []) ∷ [] }) true false ∷ [])
    (pipe 0 0 1 0 port.Done port.Done (Some ((number 1 ∷ []) ∷ []) ∷ Some ((number 2 ∷ []) ∷ []) ∷ Some ((number 3 ∷ []) ∷ []) ∷ Some ((number 4 ∷ []) ∷ []) ∷ []) 4 false false ∷ pipe 1 0 2 0 port.Ready port.Ready (Some ((number 3 ∷ []) ∷ []) ∷ []) 1 true true ∷ [])
    []

abbrev pub w22 : World
w22 =
    at 22 2 true
    (the ends_shape 0 (record (no_progress 0) { sent = 4 }) false false ∷ the ends_shape 1 (record (no_progress 1) { stage = giving; sent = 1; booked = 4; stores = (((number 3 ∷ []) ∷ []) ∷ ((number 4 ∷ []) ∷ []) ∷ []) ∷ []; made = Some ((number 3 ∷ []) ∷ []) }) true true ∷ the ends_shape 2 (record (no_progress 1) { stores = (((number 3 ∷ []) ∷ []) ∷ []) ∷ [] }) true true ∷ [])
    (pipe 0 0 1 0 port.Done port.Done (Some ((number 1 ∷ []) ∷ []) ∷ Some ((number 2 ∷ []) ∷ []) ∷ Some ((number 3 ∷ []) ∷ []) ∷ Some ((number 4 ∷ []) ∷ []) ∷ []) 4 false false ∷ pipe 1 0 2 0 port.Ready port.Ready (Some ((number 3 ∷ []) ∷ []) ∷ []) 1 true true ∷ [])
    []

abbrev pub w23 : World
w23 =
    at 23 2 false
    (the ends_shape 0 (record (no_progress 0) { sent = 4 }) false false ∷ the ends_shape 1 (record (no_progress 1) { stage = giving; sent = 1; booked = 4; stores = (((number 3 ∷ []) ∷ []) ∷ ((number 4 ∷ []) ∷ []) ∷ []) ∷ []; made = Some ((number 3 ∷ []) ∷ []) }) false false ∷ the ends_shape 2 (record (no_progress 1) { stores = (((number 3 ∷ []) ∷ []) ∷ []) ∷ [] }) false false ∷ [])
    (pipe 0 0 1 0 port.Done port.Done (Some ((number 1 ∷ []) ∷ []) ∷ Some ((number 2 ∷ []) ∷ []) ∷ Some ((number 3 ∷ []) ∷ []) ∷ Some ((number 4 ∷ []) ∷ []) ∷ []) 4 false false ∷ pipe 1 0 2 0 port.Ready port.Ready (Some ((number 3 ∷ []) ∷ []) ∷ []) 1 false false ∷ [])
    []

abbrev pub s3 : World
s3 =
    at 23 2 false
    (the ends_shape 0 (record (no_progress 0) { sent = 4 }) false false ∷ the ends_shape 1 (record (no_progress 1) { stage = spent; sent = 1; booked = 4; stores = (((number 3 ∷ []) ∷ []) ∷ ((number 4 ∷ []) ∷ []) ∷ []) ∷ []; made = Some ((number 3 ∷ []) ∷ []) }) false false ∷ the ends_shape 2 (record (no_progress 1) { stores = (((number 3 ∷ []) ∷ []) ∷ []) ∷ [] }) false false ∷ [])
    (pipe 0 0 1 0 port.Done port.Done (Some ((number 1 ∷ []) ∷ []) ∷ Some ((number 2 ∷ []) ∷ []) ∷ Some ((number 3 ∷ []) ∷ []) ∷ Some ((number 4 ∷ []) ∷ []) ∷ []) 4 false false ∷ pipe 1 0 2 0 port.Done port.Done (Some ((number 3 ∷ []) ∷ []) ∷ []) 1 false false ∷ [])
    []

abbrev pub w24 : World
w24 =
    record (at 24 3 false
    (the ends_shape 0 (record (no_progress 0) { sent = 4 }) false false ∷ the ends_shape 1 (record (no_progress 1) { stage = spent; sent = 1; booked = 4; stores = (((number 3 ∷ []) ∷ []) ∷ ((number 4 ∷ []) ∷ []) ∷ []) ∷ []; made = Some ((number 3 ∷ []) ∷ []) }) false false ∷ the ends_shape 2 (record (no_progress 1) { stores = (((number 3 ∷ []) ∷ []) ∷ []) ∷ [] }) false false ∷ [])
    (pipe 0 0 1 0 port.Done port.Done (Some ((number 1 ∷ []) ∷ []) ∷ Some ((number 2 ∷ []) ∷ []) ∷ Some ((number 3 ∷ []) ∷ []) ∷ Some ((number 4 ∷ []) ∷ []) ∷ []) 4 false false ∷ pipe 1 0 2 0 port.Done port.Done (Some ((number 3 ∷ []) ∷ []) ∷ []) 1 false false ∷ [])
    []) { ending = finished }

updates_1 : (F : Functions) → Updates F w0 s1
updates_1 F = same F 2 (refl, refl, inl (refl, refl)) (same F 1 (refl, refl, inl (refl, refl)) (same F 0 (refl, refl, inl (refl, refl)) (no_update)))

settled_1 : IsSettled s1
settled_1 = settled_by s1 (record { stage = refl; states = refl; agrees = refl; filled = refl }, (record { stage = refl; states = refl; agrees = refl; filled = refl }, (record { stage = refl; states = refl; agrees = refl; filled = refl }, tt)))

step_1 : (F : Functions) → Steps F w0 (opened 1) w1
step_1 F = (refl, refl, refl, (s1, updates_1 F, settles settled_1 refl))

step_2 : (F : Functions) → Steps F w1 (claimed 0 0 0 0) w2
step_2 F = (node_of w1 0, (refl, refl, refl), (omega arith, tt), refl, (refl, tt), (get_claim (claim_at w1 0 0 (node_of w1 0)), refl, refl, refl))

step_3 : (F : Functions) → Steps F w2 (handed_in 0 0 0 0 (rows 1)) w3
step_3 F = (piece 0 0 0 0 0 (hands_on) (a_schema ∷ []) (((number 1 ∷ []) ∷ []) ∷ []), (0, omega arith, refl), refl, refl, refl, refl, refl, (good ((number 1 ∷ []) ∷ []), refl, refl, refl))

step_4 : (F : Functions) → Steps F w3 (claimed 0 0 1 0) w4
step_4 F = (node_of w3 0, (refl, refl, refl), (omega arith, tt), refl, (refl, tt), (get_claim (claim_at w3 0 0 (node_of w3 0)), refl, refl, refl))

step_5 : (F : Functions) → Steps F w4 (handed_in 0 0 1 0 (rows 1)) w5
step_5 F = (piece 0 0 1 0 1 (hands_on) (a_schema ∷ []) (((number 2 ∷ []) ∷ []) ∷ []), (0, omega arith, refl), refl, refl, refl, refl, refl, (good ((number 2 ∷ []) ∷ []), refl, refl, refl))

step_6 : (F : Functions) → Steps F w5 (claimed 0 0 2 0) w6
step_6 F = (node_of w5 0, (refl, refl, refl), (omega arith, tt), refl, (refl, tt), (get_claim (claim_at w5 0 0 (node_of w5 0)), refl, refl, refl))

step_7 : (F : Functions) → Steps F w6 (handed_in 0 0 2 0 (rows 1)) w7
step_7 F = (piece 0 0 2 0 2 (hands_on) (a_schema ∷ []) (((number 3 ∷ []) ∷ []) ∷ []), (0, omega arith, refl), refl, refl, refl, refl, refl, (good ((number 3 ∷ []) ∷ []), refl, refl, refl))

step_8 : (F : Functions) → Steps F w7 (claimed 0 0 3 0) w8
step_8 F = (node_of w7 0, (refl, refl, refl), (omega arith, tt), refl, (refl, tt), (get_claim (claim_at w7 0 0 (node_of w7 0)), refl, refl, refl))

step_9 : (F : Functions) → Steps F w8 (handed_in 0 0 3 0 (rows 1)) w9
step_9 F = (piece 0 0 3 0 3 (hands_on) (a_schema ∷ []) (((number 4 ∷ []) ∷ []) ∷ []), (0, omega arith, refl), refl, refl, refl, refl, refl, (good ((number 4 ∷ []) ∷ []), refl, refl, refl))

step_10 : (F : Functions) → Steps F w9 (pulled 1 0 0) w10
step_10 F = (node_of w9 1, (refl, refl, refl), refl, refl, (pipe 0 0 1 0 port.Ready port.Ready (Some ((number 1 ∷ []) ∷ []) ∷ Some ((number 2 ∷ []) ∷ []) ∷ Some ((number 3 ∷ []) ∷ []) ∷ Some ((number 4 ∷ []) ∷ []) ∷ []) 0 true false, ((number 1 ∷ []) ∷ []), (0, omega arith, refl), refl, refl, refl, refl, refl, refl))

step_11 : (F : Functions) → Steps F w10 (pulled 1 0 1) w11
step_11 F = (node_of w10 1, (refl, refl, refl), refl, refl, (pipe 0 0 1 0 port.Ready port.Ready (Some ((number 1 ∷ []) ∷ []) ∷ Some ((number 2 ∷ []) ∷ []) ∷ Some ((number 3 ∷ []) ∷ []) ∷ Some ((number 4 ∷ []) ∷ []) ∷ []) 1 true false, ((number 2 ∷ []) ∷ []), (0, omega arith, refl), refl, refl, refl, refl, refl, refl))

step_12 : (F : Functions) → Steps F w11 (pulled 1 0 2) w12
step_12 F = (node_of w11 1, (refl, refl, refl), refl, refl, (pipe 0 0 1 0 port.Ready port.Ready (Some ((number 1 ∷ []) ∷ []) ∷ Some ((number 2 ∷ []) ∷ []) ∷ Some ((number 3 ∷ []) ∷ []) ∷ Some ((number 4 ∷ []) ∷ []) ∷ []) 2 true false, ((number 3 ∷ []) ∷ []), (0, omega arith, refl), refl, refl, refl, refl, refl, refl))

step_13 : (F : Functions) → Steps F w12 (pulled 1 0 3) w13
step_13 F = (node_of w12 1, (refl, refl, refl), refl, refl, (pipe 0 0 1 0 port.Ready port.Ready (Some ((number 1 ∷ []) ∷ []) ∷ Some ((number 2 ∷ []) ∷ []) ∷ Some ((number 3 ∷ []) ∷ []) ∷ Some ((number 4 ∷ []) ∷ []) ∷ []) 3 true false, ((number 4 ∷ []) ∷ []), (0, omega arith, refl), refl, refl, refl, refl, refl, refl))

step_14 : (F : Functions) → Steps F w13 (closed 0) w14
step_14 F = (node_of w13 0, (refl, refl, refl), refl, inl (refl, λ i. both_none (nat_eq i 0)), refl)

step_15 : (F : Functions) → Steps F w14 (closed 1) w15
step_15 F = (node_of w14 1, (refl, refl, refl), refl, inl (refl, λ i. both_none (nat_eq i 0)), refl)

step_16 : (F : Functions) → Steps F w15 (ended 1) w16
step_16 F = (refl, refl, refl, ((λ h. refl), ((λ h. refl), ((λ h. absurd (let no : false ≡ true = h in cc)), tt))), refl)

updates_2 : (F : Functions) → Updates F w16 s2
updates_2 F = same F 0 (refl, refl, inl (refl, refl)) (turned F 1 (record (no_progress 1) { stage = giving; booked = 4; stores = (((number 3 ∷ []) ∷ []) ∷ ((number 4 ∷ []) ∷ []) ∷ []) ∷ []; made = Some ((number 3 ∷ []) ∷ []) }) (refl, refl, inr (refl, record (no_progress 1) { booked = 4; stores = (((number 3 ∷ []) ∷ []) ∷ ((number 4 ∷ []) ∷ []) ∷ []) ∷ []; made = Some ((number 3 ∷ []) ∷ []) }, refl, refl)) (no_update))

settled_2 : IsSettled s2
settled_2 = settled_by s2 (record { stage = refl; states = refl; agrees = refl; filled = refl }, (record { stage = refl; states = refl; agrees = refl; filled = refl }, (record { stage = refl; states = refl; agrees = refl; filled = refl }, tt)))

step_17 : (F : Functions) → Steps F w16 (opened 2) w17
step_17 F = (refl, refl, refl, (s2, updates_2 F, settles settled_2 refl))

step_18 : (F : Functions) → Steps F w17 (claimed 1 0 0 0) w18
step_18 F = (node_of w17 1, (refl, refl, refl), (omega arith, tt), refl, (refl, tt), (get_claim (claim_at w17 1 0 (node_of w17 1)), refl, refl, refl))

step_19 : (F : Functions) → Steps F w18 (handed_in 1 0 0 0 (rows 1)) w19
step_19 F = (piece 1 0 0 0 0 (hands_on) (a_schema ∷ []) (((number 3 ∷ []) ∷ []) ∷ []), (0, omega arith, refl), refl, refl, refl, refl, refl, (good ((number 3 ∷ []) ∷ []), refl, refl, refl))

step_20 : (F : Functions) → Steps F w19 (pulled 2 0 0) w20
step_20 F = (node_of w19 2, (refl, refl, refl), refl, refl, (pipe 1 0 2 0 port.Ready port.Ready (Some ((number 3 ∷ []) ∷ []) ∷ []) 0 true false, ((number 3 ∷ []) ∷ []), (1, omega arith, refl), refl, refl, refl, refl, refl, refl))

step_21 : (F : Functions) → Steps F w20 (closed 1) w21
step_21 F = (node_of w20 1, (refl, refl, refl), refl, inl (refl, λ i. both_none (nat_eq i 0)), refl)

step_22 : (F : Functions) → Steps F w21 (closed 2) w22
step_22 F = (node_of w21 2, (refl, refl, refl), refl, inl (refl, λ i. refl), refl)

step_23 : (F : Functions) → Steps F w22 (ended 2) w23
step_23 F = (refl, refl, refl, ((λ h. absurd (let no : false ≡ true = h in cc)), ((λ h. refl), ((λ h. refl), tt))), refl)

updates_3 : (F : Functions) → Updates F w23 s3
updates_3 F = turned F 1 (record (no_progress 1) { stage = spent; sent = 1; booked = 4; stores = (((number 3 ∷ []) ∷ []) ∷ ((number 4 ∷ []) ∷ []) ∷ []) ∷ []; made = Some ((number 3 ∷ []) ∷ []) }) (refl, refl, inl (refl, refl)) (same F 2 (refl, refl, inl (refl, refl)) (no_update))

settled_3 : IsSettled s3
settled_3 = settled_by s3 (record { stage = refl; states = refl; agrees = refl; filled = refl }, (record { stage = refl; states = refl; agrees = refl; filled = refl }, (record { stage = refl; states = refl; agrees = refl; filled = refl }, tt)))

step_24 : (F : Functions) → Steps F w23 (opened 3) w24
step_24 F = (refl, refl, refl, (s3, updates_3 F, settles settled_3 refl))

pub run : (F : Functions) → Replays F w0 ends_journal w24
run F = (w1, step_1 F, (w2, step_2 F, (w3, step_3 F, (w4, step_4 F, (w5, step_5 F, (w6, step_6 F, (w7, step_7 F, (w8, step_8 F, (w9, step_9 F, (w10, step_10 F, (w11, step_11 F, (w12, step_12 F, (w13, step_13 F, (w14, step_14 F, (w15, step_15 F, (w16, step_16 F, (w17, step_17 F, (w18, step_18 F, (w19, step_19 F, (w20, step_20 F, (w21, step_21 F, (w22, step_22 F, (w23, step_23 F, (w24, step_24 F, refl))))))))))))))))))))))))

pub leaves : (F : Functions) → Leaves F ends_shape one_by_one ends_journal ([] ∷ ((((number 3 ∷ []) ∷ []) ∷ ((number 4 ∷ []) ∷ []) ∷ []) ∷ []) ∷ ((((number 3 ∷ []) ∷ []) ∷ []) ∷ []) ∷ [])
leaves F = (w24, run F, refl)
