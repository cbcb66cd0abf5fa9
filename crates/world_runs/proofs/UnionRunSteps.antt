-- The worlds of that run, written out, and its steps.
use Rattle.std.proofs.Common.{◌≡◌, ℕ, Bool, true, false, List, [], ◌∷◌, Some, None, refl, ap, inl, arith}
use Rattle.std.specs.Prelude.{nat_eq, take}
use Rattle.ps_frame.specs.Functions.{Functions}
use Rattle.ps_ports.specs.declared.port_state.PortState.TheVariants as port
use Rattle.ps_turns.specs.Claims.{claim_of}
use Rattle.ps_turns.specs.Tasks.{Piece, good, hands_on, rows}
use Rattle.ps_world.specs.Claims.{claim_at}
use Rattle.ps_world.specs.Opening.{no_progress, opening}
use Rattle.ps_world.specs.Step.{Replays, Steps, settles}
use Rattle.ps_world.specs.Updates.{IsSettled, Updates, no_update}
use Rattle.ps_world.specs.World.{Node, Pipe, World, claimed, closed, ended, finished, handed_in, inputs_done, opened, pulled, running, schemas_for}
use Rattle.world_runs.proofs.Writing.{both_none, get_claim, no_next, piece, pipe, same, settled_by, the}
use Rattle.world_runs.specs.Examples.{Leaves, number, one_worker, options, a_schema, one_worker}
use Rattle.world_runs.specs.Nodes.{node_of}
use Rattle.world_runs.specs.UnionRun.{union_journal, union_shape}

-- the world after so many records
abbrev at : (records phase : ℕ) → Bool → List Node → List Pipe → List Piece → World
at k phase is_open nodes pipes outs = record { options = one_worker; nodes = nodes; pipes = pipes; outs = outs; phase = phase; is_open = is_open; journal = take k union_journal; ending = running }

abbrev pub w0 : World
w0 = opening union_shape one_worker

abbrev pub s1 : World
s1 =
    at 0 0 false
    (the union_shape 0 (no_progress 0) false false ∷ the union_shape 1 (no_progress 0) false false ∷ the union_shape 2 (no_progress 2) false false ∷ the union_shape 3 (no_progress 1) false false ∷ [])
    (pipe 0 0 2 0 port.Ready port.Ready [] 0 false false ∷ pipe 1 0 2 1 port.Ready port.Blocked [] 0 false false ∷ pipe 2 0 3 0 port.Ready port.Ready [] 0 false false ∷ [])
    []

abbrev pub w1 : World
w1 =
    at 1 1 true
    (the union_shape 0 (no_progress 0) true false ∷ the union_shape 1 (no_progress 0) false false ∷ the union_shape 2 (no_progress 2) true false ∷ the union_shape 3 (no_progress 1) true false ∷ [])
    (pipe 0 0 2 0 port.Ready port.Ready [] 0 true false ∷ pipe 1 0 2 1 port.Ready port.Blocked [] 0 false false ∷ pipe 2 0 3 0 port.Ready port.Ready [] 0 true false ∷ [])
    []

abbrev pub w2 : World
w2 =
    at 2 1 true
    (the union_shape 0 (record (no_progress 0) { sent = 1 }) true false ∷ the union_shape 1 (no_progress 0) false false ∷ the union_shape 2 (no_progress 2) true false ∷ the union_shape 3 (no_progress 1) true false ∷ [])
    (pipe 0 0 2 0 port.Ready port.Ready (None ∷ []) 0 true false ∷ pipe 1 0 2 1 port.Ready port.Blocked [] 0 false false ∷ pipe 2 0 3 0 port.Ready port.Ready [] 0 true false ∷ [])
    (piece 0 0 0 0 0 (hands_on) (a_schema ∷ []) (((number 1 ∷ []) ∷ (number 2 ∷ []) ∷ []) ∷ []) ∷ [])

abbrev pub w3 : World
w3 =
    at 3 1 true
    (the union_shape 0 (record (no_progress 0) { sent = 1 }) true false ∷ the union_shape 1 (no_progress 0) false false ∷ the union_shape 2 (no_progress 2) true false ∷ the union_shape 3 (no_progress 1) true false ∷ [])
    (pipe 0 0 2 0 port.Ready port.Ready (Some ((number 1 ∷ []) ∷ (number 2 ∷ []) ∷ []) ∷ []) 0 true false ∷ pipe 1 0 2 1 port.Ready port.Blocked [] 0 false false ∷ pipe 2 0 3 0 port.Ready port.Ready [] 0 true false ∷ [])
    []

abbrev pub w4 : World
w4 =
    at 4 1 true
    (the union_shape 0 (record (no_progress 0) { sent = 1 }) true false ∷ the union_shape 1 (no_progress 0) false false ∷ the union_shape 2 (record (no_progress 2) { sent = 1 }) true false ∷ the union_shape 3 (no_progress 1) true false ∷ [])
    (pipe 0 0 2 0 port.Ready port.Ready (Some ((number 1 ∷ []) ∷ (number 2 ∷ []) ∷ []) ∷ []) 1 true false ∷ pipe 1 0 2 1 port.Ready port.Blocked [] 0 false false ∷ pipe 2 0 3 0 port.Ready port.Ready (None ∷ []) 0 true false ∷ [])
    (piece 2 0 0 0 0 (hands_on) (a_schema ∷ a_schema ∷ []) (((number 1 ∷ []) ∷ (number 2 ∷ []) ∷ []) ∷ []) ∷ [])

abbrev pub w5 : World
w5 =
    at 5 1 true
    (the union_shape 0 (record (no_progress 0) { sent = 1 }) true false ∷ the union_shape 1 (no_progress 0) false false ∷ the union_shape 2 (record (no_progress 2) { sent = 1 }) true false ∷ the union_shape 3 (no_progress 1) true false ∷ [])
    (pipe 0 0 2 0 port.Ready port.Ready (Some ((number 1 ∷ []) ∷ (number 2 ∷ []) ∷ []) ∷ []) 1 true false ∷ pipe 1 0 2 1 port.Ready port.Blocked [] 0 false false ∷ pipe 2 0 3 0 port.Ready port.Ready (Some ((number 1 ∷ []) ∷ (number 2 ∷ []) ∷ []) ∷ []) 0 true false ∷ [])
    []

abbrev pub w6 : World
w6 =
    at 6 1 true
    (the union_shape 0 (record (no_progress 0) { sent = 1 }) true false ∷ the union_shape 1 (no_progress 0) false false ∷ the union_shape 2 (record (no_progress 2) { sent = 1 }) true false ∷ the union_shape 3 (record (no_progress 1) { stores = (((number 1 ∷ []) ∷ (number 2 ∷ []) ∷ []) ∷ []) ∷ [] }) true false ∷ [])
    (pipe 0 0 2 0 port.Ready port.Ready (Some ((number 1 ∷ []) ∷ (number 2 ∷ []) ∷ []) ∷ []) 1 true false ∷ pipe 1 0 2 1 port.Ready port.Blocked [] 0 false false ∷ pipe 2 0 3 0 port.Ready port.Ready (Some ((number 1 ∷ []) ∷ (number 2 ∷ []) ∷ []) ∷ []) 1 true false ∷ [])
    []

abbrev pub w7 : World
w7 =
    at 7 1 true
    (the union_shape 0 (record (no_progress 0) { sent = 1 }) true true ∷ the union_shape 1 (no_progress 0) false false ∷ the union_shape 2 (record (no_progress 2) { sent = 1 }) true false ∷ the union_shape 3 (record (no_progress 1) { stores = (((number 1 ∷ []) ∷ (number 2 ∷ []) ∷ []) ∷ []) ∷ [] }) true false ∷ [])
    (pipe 0 0 2 0 port.Ready port.Ready (Some ((number 1 ∷ []) ∷ (number 2 ∷ []) ∷ []) ∷ []) 1 true true ∷ pipe 1 0 2 1 port.Ready port.Blocked [] 0 false false ∷ pipe 2 0 3 0 port.Ready port.Ready (Some ((number 1 ∷ []) ∷ (number 2 ∷ []) ∷ []) ∷ []) 1 true false ∷ [])
    []

abbrev pub w8 : World
w8 =
    at 8 1 true
    (the union_shape 0 (record (no_progress 0) { sent = 1 }) true true ∷ the union_shape 1 (no_progress 0) false false ∷ the union_shape 2 (record (no_progress 2) { sent = 1 }) true true ∷ the union_shape 3 (record (no_progress 1) { stores = (((number 1 ∷ []) ∷ (number 2 ∷ []) ∷ []) ∷ []) ∷ [] }) true false ∷ [])
    (pipe 0 0 2 0 port.Ready port.Ready (Some ((number 1 ∷ []) ∷ (number 2 ∷ []) ∷ []) ∷ []) 1 true true ∷ pipe 1 0 2 1 port.Ready port.Blocked [] 0 false false ∷ pipe 2 0 3 0 port.Ready port.Ready (Some ((number 1 ∷ []) ∷ (number 2 ∷ []) ∷ []) ∷ []) 1 true true ∷ [])
    []

abbrev pub w9 : World
w9 =
    at 9 1 true
    (the union_shape 0 (record (no_progress 0) { sent = 1 }) true true ∷ the union_shape 1 (no_progress 0) false false ∷ the union_shape 2 (record (no_progress 2) { sent = 1 }) true true ∷ the union_shape 3 (record (no_progress 1) { stores = (((number 1 ∷ []) ∷ (number 2 ∷ []) ∷ []) ∷ []) ∷ [] }) true true ∷ [])
    (pipe 0 0 2 0 port.Ready port.Ready (Some ((number 1 ∷ []) ∷ (number 2 ∷ []) ∷ []) ∷ []) 1 true true ∷ pipe 1 0 2 1 port.Ready port.Blocked [] 0 false false ∷ pipe 2 0 3 0 port.Ready port.Ready (Some ((number 1 ∷ []) ∷ (number 2 ∷ []) ∷ []) ∷ []) 1 true true ∷ [])
    []

abbrev pub w10 : World
w10 =
    at 10 1 false
    (the union_shape 0 (record (no_progress 0) { sent = 1 }) false false ∷ the union_shape 1 (no_progress 0) false false ∷ the union_shape 2 (record (no_progress 2) { sent = 1 }) false false ∷ the union_shape 3 (record (no_progress 1) { stores = (((number 1 ∷ []) ∷ (number 2 ∷ []) ∷ []) ∷ []) ∷ [] }) false false ∷ [])
    (pipe 0 0 2 0 port.Ready port.Ready (Some ((number 1 ∷ []) ∷ (number 2 ∷ []) ∷ []) ∷ []) 1 false false ∷ pipe 1 0 2 1 port.Ready port.Blocked [] 0 false false ∷ pipe 2 0 3 0 port.Ready port.Ready (Some ((number 1 ∷ []) ∷ (number 2 ∷ []) ∷ []) ∷ []) 1 false false ∷ [])
    []

abbrev pub s2 : World
s2 =
    at 10 1 false
    (the union_shape 0 (record (no_progress 0) { sent = 1 }) false false ∷ the union_shape 1 (no_progress 0) false false ∷ the union_shape 2 (record (no_progress 2) { sent = 1 }) false false ∷ the union_shape 3 (record (no_progress 1) { stores = (((number 1 ∷ []) ∷ (number 2 ∷ []) ∷ []) ∷ []) ∷ [] }) false false ∷ [])
    (pipe 0 0 2 0 port.Done port.Done (Some ((number 1 ∷ []) ∷ (number 2 ∷ []) ∷ []) ∷ []) 1 false false ∷ pipe 1 0 2 1 port.Ready port.Ready [] 0 false false ∷ pipe 2 0 3 0 port.Ready port.Ready (Some ((number 1 ∷ []) ∷ (number 2 ∷ []) ∷ []) ∷ []) 1 false false ∷ [])
    []

abbrev pub w11 : World
w11 =
    at 11 2 true
    (the union_shape 0 (record (no_progress 0) { sent = 1 }) false false ∷ the union_shape 1 (no_progress 0) true false ∷ the union_shape 2 (record (no_progress 2) { sent = 1 }) true false ∷ the union_shape 3 (record (no_progress 1) { stores = (((number 1 ∷ []) ∷ (number 2 ∷ []) ∷ []) ∷ []) ∷ [] }) true false ∷ [])
    (pipe 0 0 2 0 port.Done port.Done (Some ((number 1 ∷ []) ∷ (number 2 ∷ []) ∷ []) ∷ []) 1 false false ∷ pipe 1 0 2 1 port.Ready port.Ready [] 0 true false ∷ pipe 2 0 3 0 port.Ready port.Ready (Some ((number 1 ∷ []) ∷ (number 2 ∷ []) ∷ []) ∷ []) 1 true false ∷ [])
    []

abbrev pub w12 : World
w12 =
    at 12 2 true
    (the union_shape 0 (record (no_progress 0) { sent = 1 }) false false ∷ the union_shape 1 (record (no_progress 0) { sent = 1 }) true false ∷ the union_shape 2 (record (no_progress 2) { sent = 1 }) true false ∷ the union_shape 3 (record (no_progress 1) { stores = (((number 1 ∷ []) ∷ (number 2 ∷ []) ∷ []) ∷ []) ∷ [] }) true false ∷ [])
    (pipe 0 0 2 0 port.Done port.Done (Some ((number 1 ∷ []) ∷ (number 2 ∷ []) ∷ []) ∷ []) 1 false false ∷ pipe 1 0 2 1 port.Ready port.Ready (None ∷ []) 0 true false ∷ pipe 2 0 3 0 port.Ready port.Ready (Some ((number 1 ∷ []) ∷ (number 2 ∷ []) ∷ []) ∷ []) 1 true false ∷ [])
    (piece 1 0 0 0 0 (hands_on) (a_schema ∷ []) (((number 3 ∷ []) ∷ []) ∷ []) ∷ [])

abbrev pub w13 : World
w13 =
    at 13 2 true
    (the union_shape 0 (record (no_progress 0) { sent = 1 }) false false ∷ the union_shape 1 (record (no_progress 0) { sent = 1 }) true false ∷ the union_shape 2 (record (no_progress 2) { sent = 1 }) true false ∷ the union_shape 3 (record (no_progress 1) { stores = (((number 1 ∷ []) ∷ (number 2 ∷ []) ∷ []) ∷ []) ∷ [] }) true false ∷ [])
    (pipe 0 0 2 0 port.Done port.Done (Some ((number 1 ∷ []) ∷ (number 2 ∷ []) ∷ []) ∷ []) 1 false false ∷ pipe 1 0 2 1 port.Ready port.Ready (Some ((number 3 ∷ []) ∷ []) ∷ []) 0 true false ∷ pipe 2 0 3 0 port.Ready port.Ready (Some ((number 1 ∷ []) ∷ (number 2 ∷ []) ∷ []) ∷ []) 1 true false ∷ [])
    []

abbrev pub w14 : World
w14 =
    at 14 2 true
    (the union_shape 0 (record (no_progress 0) { sent = 1 }) false false ∷ the union_shape 1 (record (no_progress 0) { sent = 1 }) true false ∷ the union_shape 2 (record (no_progress 2) { sent = 2 }) true false ∷ the union_shape 3 (record (no_progress 1) { stores = (((number 1 ∷ []) ∷ (number 2 ∷ []) ∷ []) ∷ []) ∷ [] }) true false ∷ [])
    (pipe 0 0 2 0 port.Done port.Done (Some ((number 1 ∷ []) ∷ (number 2 ∷ []) ∷ []) ∷ []) 1 false false ∷ pipe 1 0 2 1 port.Ready port.Ready (Some ((number 3 ∷ []) ∷ []) ∷ []) 1 true false ∷ pipe 2 0 3 0 port.Ready port.Ready (Some ((number 1 ∷ []) ∷ (number 2 ∷ []) ∷ []) ∷ None ∷ []) 1 true false ∷ [])
    (piece 2 1 0 0 1 (hands_on) (a_schema ∷ a_schema ∷ []) (((number 3 ∷ []) ∷ []) ∷ []) ∷ [])

abbrev pub w15 : World
w15 =
    at 15 2 true
    (the union_shape 0 (record (no_progress 0) { sent = 1 }) false false ∷ the union_shape 1 (record (no_progress 0) { sent = 1 }) true false ∷ the union_shape 2 (record (no_progress 2) { sent = 2 }) true false ∷ the union_shape 3 (record (no_progress 1) { stores = (((number 1 ∷ []) ∷ (number 2 ∷ []) ∷ []) ∷ []) ∷ [] }) true false ∷ [])
    (pipe 0 0 2 0 port.Done port.Done (Some ((number 1 ∷ []) ∷ (number 2 ∷ []) ∷ []) ∷ []) 1 false false ∷ pipe 1 0 2 1 port.Ready port.Ready (Some ((number 3 ∷ []) ∷ []) ∷ []) 1 true false ∷ pipe 2 0 3 0 port.Ready port.Ready (Some ((number 1 ∷ []) ∷ (number 2 ∷ []) ∷ []) ∷ Some ((number 3 ∷ []) ∷ []) ∷ []) 1 true false ∷ [])
    []

abbrev pub w16 : World
w16 =
    at 16 2 true
    (the union_shape 0 (record (no_progress 0) { sent = 1 }) false false ∷ the union_shape 1 (record (no_progress 0) { sent = 1 }) true false ∷ the union_shape 2 (record (no_progress 2) { sent = 2 }) true false ∷ the union_shape 3 (record (no_progress 1) { stores = (((number 1 ∷ []) ∷ (number 2 ∷ []) ∷ []) ∷ ((number 3 ∷ []) ∷ []) ∷ []) ∷ [] }) true false ∷ [])
    (pipe 0 0 2 0 port.Done port.Done (Some ((number 1 ∷ []) ∷ (number 2 ∷ []) ∷ []) ∷ []) 1 false false ∷ pipe 1 0 2 1 port.Ready port.Ready (Some ((number 3 ∷ []) ∷ []) ∷ []) 1 true false ∷ pipe 2 0 3 0 port.Ready port.Ready (Some ((number 1 ∷ []) ∷ (number 2 ∷ []) ∷ []) ∷ Some ((number 3 ∷ []) ∷ []) ∷ []) 2 true false ∷ [])
    []

abbrev pub w17 : World
w17 =
    at 17 2 true
    (the union_shape 0 (record (no_progress 0) { sent = 1 }) false false ∷ the union_shape 1 (record (no_progress 0) { sent = 1 }) true true ∷ the union_shape 2 (record (no_progress 2) { sent = 2 }) true false ∷ the union_shape 3 (record (no_progress 1) { stores = (((number 1 ∷ []) ∷ (number 2 ∷ []) ∷ []) ∷ ((number 3 ∷ []) ∷ []) ∷ []) ∷ [] }) true false ∷ [])
    (pipe 0 0 2 0 port.Done port.Done (Some ((number 1 ∷ []) ∷ (number 2 ∷ []) ∷ []) ∷ []) 1 false false ∷ pipe 1 0 2 1 port.Ready port.Ready (Some ((number 3 ∷ []) ∷ []) ∷ []) 1 true true ∷ pipe 2 0 3 0 port.Ready port.Ready (Some ((number 1 ∷ []) ∷ (number 2 ∷ []) ∷ []) ∷ Some ((number 3 ∷ []) ∷ []) ∷ []) 2 true false ∷ [])
    []

abbrev pub w18 : World
w18 =
    at 18 2 true
    (the union_shape 0 (record (no_progress 0) { sent = 1 }) false false ∷ the union_shape 1 (record (no_progress 0) { sent = 1 }) true true ∷ the union_shape 2 (record (no_progress 2) { sent = 2 }) true true ∷ the union_shape 3 (record (no_progress 1) { stores = (((number 1 ∷ []) ∷ (number 2 ∷ []) ∷ []) ∷ ((number 3 ∷ []) ∷ []) ∷ []) ∷ [] }) true false ∷ [])
    (pipe 0 0 2 0 port.Done port.Done (Some ((number 1 ∷ []) ∷ (number 2 ∷ []) ∷ []) ∷ []) 1 false false ∷ pipe 1 0 2 1 port.Ready port.Ready (Some ((number 3 ∷ []) ∷ []) ∷ []) 1 true true ∷ pipe 2 0 3 0 port.Ready port.Ready (Some ((number 1 ∷ []) ∷ (number 2 ∷ []) ∷ []) ∷ Some ((number 3 ∷ []) ∷ []) ∷ []) 2 true true ∷ [])
    []

abbrev pub w19 : World
w19 =
    at 19 2 true
    (the union_shape 0 (record (no_progress 0) { sent = 1 }) false false ∷ the union_shape 1 (record (no_progress 0) { sent = 1 }) true true ∷ the union_shape 2 (record (no_progress 2) { sent = 2 }) true true ∷ the union_shape 3 (record (no_progress 1) { stores = (((number 1 ∷ []) ∷ (number 2 ∷ []) ∷ []) ∷ ((number 3 ∷ []) ∷ []) ∷ []) ∷ [] }) true true ∷ [])
    (pipe 0 0 2 0 port.Done port.Done (Some ((number 1 ∷ []) ∷ (number 2 ∷ []) ∷ []) ∷ []) 1 false false ∷ pipe 1 0 2 1 port.Ready port.Ready (Some ((number 3 ∷ []) ∷ []) ∷ []) 1 true true ∷ pipe 2 0 3 0 port.Ready port.Ready (Some ((number 1 ∷ []) ∷ (number 2 ∷ []) ∷ []) ∷ Some ((number 3 ∷ []) ∷ []) ∷ []) 2 true true ∷ [])
    []

abbrev pub w20 : World
w20 =
    at 20 2 false
    (the union_shape 0 (record (no_progress 0) { sent = 1 }) false false ∷ the union_shape 1 (record (no_progress 0) { sent = 1 }) false false ∷ the union_shape 2 (record (no_progress 2) { sent = 2 }) false false ∷ the union_shape 3 (record (no_progress 1) { stores = (((number 1 ∷ []) ∷ (number 2 ∷ []) ∷ []) ∷ ((number 3 ∷ []) ∷ []) ∷ []) ∷ [] }) false false ∷ [])
    (pipe 0 0 2 0 port.Done port.Done (Some ((number 1 ∷ []) ∷ (number 2 ∷ []) ∷ []) ∷ []) 1 false false ∷ pipe 1 0 2 1 port.Ready port.Ready (Some ((number 3 ∷ []) ∷ []) ∷ []) 1 false false ∷ pipe 2 0 3 0 port.Ready port.Ready (Some ((number 1 ∷ []) ∷ (number 2 ∷ []) ∷ []) ∷ Some ((number 3 ∷ []) ∷ []) ∷ []) 2 false false ∷ [])
    []

abbrev pub s3 : World
s3 =
    at 20 2 false
    (the union_shape 0 (record (no_progress 0) { sent = 1 }) false false ∷ the union_shape 1 (record (no_progress 0) { sent = 1 }) false false ∷ the union_shape 2 (record (no_progress 2) { sent = 2 }) false false ∷ the union_shape 3 (record (no_progress 1) { stores = (((number 1 ∷ []) ∷ (number 2 ∷ []) ∷ []) ∷ ((number 3 ∷ []) ∷ []) ∷ []) ∷ [] }) false false ∷ [])
    (pipe 0 0 2 0 port.Done port.Done (Some ((number 1 ∷ []) ∷ (number 2 ∷ []) ∷ []) ∷ []) 1 false false ∷ pipe 1 0 2 1 port.Done port.Done (Some ((number 3 ∷ []) ∷ []) ∷ []) 1 false false ∷ pipe 2 0 3 0 port.Done port.Done (Some ((number 1 ∷ []) ∷ (number 2 ∷ []) ∷ []) ∷ Some ((number 3 ∷ []) ∷ []) ∷ []) 2 false false ∷ [])
    []

abbrev pub w21 : World
w21 =
    record (at 21 3 false
    (the union_shape 0 (record (no_progress 0) { sent = 1 }) false false ∷ the union_shape 1 (record (no_progress 0) { sent = 1 }) false false ∷ the union_shape 2 (record (no_progress 2) { sent = 2 }) false false ∷ the union_shape 3 (record (no_progress 1) { stores = (((number 1 ∷ []) ∷ (number 2 ∷ []) ∷ []) ∷ ((number 3 ∷ []) ∷ []) ∷ []) ∷ [] }) false false ∷ [])
    (pipe 0 0 2 0 port.Done port.Done (Some ((number 1 ∷ []) ∷ (number 2 ∷ []) ∷ []) ∷ []) 1 false false ∷ pipe 1 0 2 1 port.Done port.Done (Some ((number 3 ∷ []) ∷ []) ∷ []) 1 false false ∷ pipe 2 0 3 0 port.Done port.Done (Some ((number 1 ∷ []) ∷ (number 2 ∷ []) ∷ []) ∷ Some ((number 3 ∷ []) ∷ []) ∷ []) 2 false false ∷ [])
    []) { ending = finished }

updates_1 : (F : Functions) → Updates F w0 s1
updates_1 F = same F 3 (refl, refl, inl (refl, refl)) (same F 2 (refl, refl, inl (refl, refl)) (same F 1 (refl, refl, inl (refl, refl)) (same F 0 (refl, refl, inl (refl, refl)) (same F 2 (refl, refl, inl (refl, refl)) (no_update)))))

settled_1 : IsSettled s1
settled_1 = settled_by s1 (record { stage = refl; states = refl; agrees = refl; filled = refl }, (record { stage = refl; states = refl; agrees = refl; filled = refl }, (record { stage = refl; states = refl; agrees = refl; filled = refl }, (record { stage = refl; states = refl; agrees = refl; filled = refl }, tt))))

step_1 : (F : Functions) → Steps F w0 (opened 1) w1
step_1 F = (refl, refl, refl, (s1, updates_1 F, settles settled_1 refl))

step_2 : (F : Functions) → Steps F w1 (claimed 0 0 0 0) w2
step_2 F = (node_of w1 0, (refl, refl, refl), (omega arith, tt), refl, (refl, tt), (get_claim (claim_at w1 0 0 (node_of w1 0)), refl, refl, refl))

step_3 : (F : Functions) → Steps F w2 (handed_in 0 0 0 0 (rows 2)) w3
step_3 F = (piece 0 0 0 0 0 (hands_on) (a_schema ∷ []) (((number 1 ∷ []) ∷ (number 2 ∷ []) ∷ []) ∷ []), (0, omega arith, refl), refl, refl, refl, refl, refl, (good ((number 1 ∷ []) ∷ (number 2 ∷ []) ∷ []), refl, refl, refl))

step_4 : (F : Functions) → Steps F w3 (claimed 2 0 0 0) w4
step_4 F = (node_of w3 2, (refl, refl, refl), (omega arith, tt), refl, (refl, tt), (get_claim (claim_at w3 2 0 (node_of w3 2)), refl, refl, refl))

step_5 : (F : Functions) → Steps F w4 (handed_in 2 0 0 0 (rows 2)) w5
step_5 F = (piece 2 0 0 0 0 (hands_on) (a_schema ∷ a_schema ∷ []) (((number 1 ∷ []) ∷ (number 2 ∷ []) ∷ []) ∷ []), (0, omega arith, refl), refl, refl, refl, refl, refl, (good ((number 1 ∷ []) ∷ (number 2 ∷ []) ∷ []), refl, refl, refl))

step_6 : (F : Functions) → Steps F w5 (pulled 3 0 0) w6
step_6 F = (node_of w5 3, (refl, refl, refl), refl, refl, (pipe 2 0 3 0 port.Ready port.Ready (Some ((number 1 ∷ []) ∷ (number 2 ∷ []) ∷ []) ∷ []) 0 true false, ((number 1 ∷ []) ∷ (number 2 ∷ []) ∷ []), (2, omega arith, refl), refl, refl, refl, refl, refl, refl))

step_7 : (F : Functions) → Steps F w6 (closed 0) w7
step_7 F = (node_of w6 0, (refl, refl, refl), refl, inl (refl, λ i. both_none (nat_eq i 0)), refl)

step_8 : (F : Functions) → Steps F w7 (closed 2) w8
step_8 F = (node_of w7 2, (refl, refl, refl), refl, inl (refl, λ i. ap (λ next. claim_of one_worker (node_of w7 2).node (schemas_for w7 (node_of w7 2)) (node_of w7 2).progress [] (inputs_done w7 2) i next) (no_next w7 2 i refl)), refl)

step_9 : (F : Functions) → Steps F w8 (closed 3) w9
step_9 F = (node_of w8 3, (refl, refl, refl), refl, inl (refl, λ i. refl), refl)

step_10 : (F : Functions) → Steps F w9 (ended 1) w10
step_10 F = (refl, refl, refl, ((λ h. refl), ((λ h. absurd (let no : false ≡ true = h in cc)), ((λ h. refl), ((λ h. refl), tt)))), refl)

updates_2 : (F : Functions) → Updates F w10 s2
updates_2 F = same F 0 (refl, refl, inl (refl, refl)) (same F 2 (refl, refl, inl (refl, refl)) (no_update))

settled_2 : IsSettled s2
settled_2 = settled_by s2 (record { stage = refl; states = refl; agrees = refl; filled = refl }, (record { stage = refl; states = refl; agrees = refl; filled = refl }, (record { stage = refl; states = refl; agrees = refl; filled = refl }, (record { stage = refl; states = refl; agrees = refl; filled = refl }, tt))))

step_11 : (F : Functions) → Steps F w10 (opened 2) w11
step_11 F = (refl, refl, refl, (s2, updates_2 F, settles settled_2 refl))

step_12 : (F : Functions) → Steps F w11 (claimed 1 0 0 0) w12
step_12 F = (node_of w11 1, (refl, refl, refl), (omega arith, tt), refl, (refl, tt), (get_claim (claim_at w11 1 0 (node_of w11 1)), refl, refl, refl))

step_13 : (F : Functions) → Steps F w12 (handed_in 1 0 0 0 (rows 1)) w13
step_13 F = (piece 1 0 0 0 0 (hands_on) (a_schema ∷ []) (((number 3 ∷ []) ∷ []) ∷ []), (0, omega arith, refl), refl, refl, refl, refl, refl, (good ((number 3 ∷ []) ∷ []), refl, refl, refl))

step_14 : (F : Functions) → Steps F w13 (claimed 2 1 0 0) w14
step_14 F = (node_of w13 2, (refl, refl, refl), (omega arith, tt), refl, (refl, tt), (get_claim (claim_at w13 2 1 (node_of w13 2)), refl, refl, refl))

step_15 : (F : Functions) → Steps F w14 (handed_in 2 1 0 0 (rows 1)) w15
step_15 F = (piece 2 1 0 0 1 (hands_on) (a_schema ∷ a_schema ∷ []) (((number 3 ∷ []) ∷ []) ∷ []), (0, omega arith, refl), refl, refl, refl, refl, refl, (good ((number 3 ∷ []) ∷ []), refl, refl, refl))

step_16 : (F : Functions) → Steps F w15 (pulled 3 0 1) w16
step_16 F = (node_of w15 3, (refl, refl, refl), refl, refl, (pipe 2 0 3 0 port.Ready port.Ready (Some ((number 1 ∷ []) ∷ (number 2 ∷ []) ∷ []) ∷ Some ((number 3 ∷ []) ∷ []) ∷ []) 1 true false, ((number 3 ∷ []) ∷ []), (2, omega arith, refl), refl, refl, refl, refl, refl, refl))

step_17 : (F : Functions) → Steps F w16 (closed 1) w17
step_17 F = (node_of w16 1, (refl, refl, refl), refl, inl (refl, λ i. both_none (nat_eq i 0)), refl)

step_18 : (F : Functions) → Steps F w17 (closed 2) w18
step_18 F = (node_of w17 2, (refl, refl, refl), refl, inl (refl, λ i. ap (λ next. claim_of one_worker (node_of w17 2).node (schemas_for w17 (node_of w17 2)) (node_of w17 2).progress [] (inputs_done w17 2) i next) (no_next w17 2 i refl)), refl)

step_19 : (F : Functions) → Steps F w18 (closed 3) w19
step_19 F = (node_of w18 3, (refl, refl, refl), refl, inl (refl, λ i. refl), refl)

step_20 : (F : Functions) → Steps F w19 (ended 2) w20
step_20 F = (refl, refl, refl, ((λ h. absurd (let no : false ≡ true = h in cc)), ((λ h. refl), ((λ h. refl), ((λ h. refl), tt)))), refl)

updates_3 : (F : Functions) → Updates F w20 s3
updates_3 F = same F 1 (refl, refl, inl (refl, refl)) (same F 2 (refl, refl, inl (refl, refl)) (same F 3 (refl, refl, inl (refl, refl)) (no_update)))

settled_3 : IsSettled s3
settled_3 = settled_by s3 (record { stage = refl; states = refl; agrees = refl; filled = refl }, (record { stage = refl; states = refl; agrees = refl; filled = refl }, (record { stage = refl; states = refl; agrees = refl; filled = refl }, (record { stage = refl; states = refl; agrees = refl; filled = refl }, tt))))

step_21 : (F : Functions) → Steps F w20 (opened 3) w21
step_21 F = (refl, refl, refl, (s3, updates_3 F, settles settled_3 refl))

pub run : (F : Functions) → Replays F w0 union_journal w21
run F = (w1, step_1 F, (w2, step_2 F, (w3, step_3 F, (w4, step_4 F, (w5, step_5 F, (w6, step_6 F, (w7, step_7 F, (w8, step_8 F, (w9, step_9 F, (w10, step_10 F, (w11, step_11 F, (w12, step_12 F, (w13, step_13 F, (w14, step_14 F, (w15, step_15 F, (w16, step_16 F, (w17, step_17 F, (w18, step_18 F, (w19, step_19 F, (w20, step_20 F, (w21, step_21 F, refl)))))))))))))))))))))

pub leaves : (F : Functions) → Leaves F union_shape one_worker union_journal ([] ∷ [] ∷ ([] ∷ [] ∷ []) ∷ ((((number 1 ∷ []) ∷ (number 2 ∷ []) ∷ []) ∷ ((number 3 ∷ []) ∷ []) ∷ []) ∷ []) ∷ [])
leaves F = (w21, run F, refl)
