-- The worlds of that run, written out, and its steps.
use Rattle.std.proofs.Common.{◌≡◌, ℕ, Bool, true, false, List, [], ◌∷◌, ◌++◌, Some, None, refl, ap, inl, inr, arith}
use Rattle.std.specs.Int.{int_wrap}
use Rattle.std.specs.Prelude.{nat_eq, take}
use Rattle.ps_frame.specs.Functions.{Functions}
use Rattle.ps_ports.specs.declared.port_state.PortState.TheVariants as port
use Rattle.ps_turns.specs.Claims.{claim_of}
use Rattle.ps_turns.specs.Progress.{giving, spent}
use Rattle.ps_turns.specs.Tasks.{Piece, computes, good, hands_on, keeps, partial, rows}
use Rattle.ps_world.specs.Claims.{claim_at}
use Rattle.ps_world.specs.Opening.{no_progress, opening}
use Rattle.ps_world.specs.Step.{Replays, Steps, settles}
use Rattle.ps_world.specs.Updates.{IsSettled, Updates, no_update}
use Rattle.ps_world.specs.World.{Node, Pipe, World, claimed, closed, ended, finished, handed_in, inputs_done, opened, pulled, running, schemas_for}
use Rattle.world_runs.proofs.Writing.{at_place, both_none, get_claim, no_next, piece, pipe, same, settled_by, the, turned}
use Rattle.world_runs.specs.Examples.{Leaves, number, one_worker, options, sum_shape, ab_schema, sum_schema, s_schema}
use Rattle.world_runs.specs.Nodes.{node_of}
use Rattle.world_runs.specs.SumJournal.{sum_journal}

-- the world after so many records
abbrev at : (records phase : ℕ) → Bool → List Node → List Pipe → List Piece → World
at k phase is_open nodes pipes outs = record { options = one_worker; nodes = nodes; pipes = pipes; outs = outs; phase = phase; is_open = is_open; journal = take k sum_journal; ending = running }

abbrev pub w0 : World
w0 = opening sum_shape one_worker

abbrev pub s1 : World
s1 =
    at 0 0 false
    (the sum_shape 0 (no_progress 0) false false ∷ the sum_shape 1 (no_progress 1) false false ∷ the sum_shape 2 (no_progress 1) false false ∷ the sum_shape 3 (no_progress 2) false false ∷ the sum_shape 4 (no_progress 1) false false ∷ the sum_shape 5 (no_progress 1) false false ∷ [])
    (pipe 0 0 1 0 port.Ready port.Ready [] 0 false false ∷ pipe 1 1 2 0 port.Ready port.Ready [] 0 false false ∷ pipe 1 0 3 0 port.Ready port.Blocked [] 0 false false ∷ pipe 2 0 3 1 port.Blocked port.Blocked [] 0 false false ∷ pipe 3 0 4 0 port.Blocked port.Ready [] 0 false false ∷ pipe 4 0 5 0 port.Blocked port.Ready [] 0 false false ∷ [])
    []

abbrev pub w1 : World
w1 =
    at 1 1 true
    (the sum_shape 0 (no_progress 0) true false ∷ the sum_shape 1 (no_progress 1) true false ∷ the sum_shape 2 (no_progress 1) true false ∷ the sum_shape 3 (no_progress 2) false false ∷ the sum_shape 4 (no_progress 1) false false ∷ the sum_shape 5 (no_progress 1) false false ∷ [])
    (pipe 0 0 1 0 port.Ready port.Ready [] 0 true false ∷ pipe 1 1 2 0 port.Ready port.Ready [] 0 true false ∷ pipe 1 0 3 0 port.Ready port.Blocked [] 0 false false ∷ pipe 2 0 3 1 port.Blocked port.Blocked [] 0 false false ∷ pipe 3 0 4 0 port.Blocked port.Ready [] 0 false false ∷ pipe 4 0 5 0 port.Blocked port.Ready [] 0 false false ∷ [])
    []

abbrev pub w2 : World
w2 =
    at 2 1 true
    (the sum_shape 0 (record (no_progress 0) { sent = 1 }) true false ∷ the sum_shape 1 (no_progress 1) true false ∷ the sum_shape 2 (no_progress 1) true false ∷ the sum_shape 3 (no_progress 2) false false ∷ the sum_shape 4 (no_progress 1) false false ∷ the sum_shape 5 (no_progress 1) false false ∷ [])
    (pipe 0 0 1 0 port.Ready port.Ready (None ∷ []) 0 true false ∷ pipe 1 1 2 0 port.Ready port.Ready [] 0 true false ∷ pipe 1 0 3 0 port.Ready port.Blocked [] 0 false false ∷ pipe 2 0 3 1 port.Blocked port.Blocked [] 0 false false ∷ pipe 3 0 4 0 port.Blocked port.Ready [] 0 false false ∷ pipe 4 0 5 0 port.Blocked port.Ready [] 0 false false ∷ [])
    (piece 0 0 0 0 0 (hands_on) (ab_schema ∷ []) (((number 1 ∷ number 4 ∷ []) ∷ (number 2 ∷ number 5 ∷ []) ∷ (number 3 ∷ number 6 ∷ []) ∷ []) ∷ []) ∷ [])

abbrev pub w3 : World
w3 =
    at 3 1 true
    (the sum_shape 0 (record (no_progress 0) { sent = 1 }) true false ∷ the sum_shape 1 (no_progress 1) true false ∷ the sum_shape 2 (no_progress 1) true false ∷ the sum_shape 3 (no_progress 2) false false ∷ the sum_shape 4 (no_progress 1) false false ∷ the sum_shape 5 (no_progress 1) false false ∷ [])
    (pipe 0 0 1 0 port.Ready port.Ready (Some ((number 1 ∷ number 4 ∷ []) ∷ (number 2 ∷ number 5 ∷ []) ∷ (number 3 ∷ number 6 ∷ []) ∷ []) ∷ []) 0 true false ∷ pipe 1 1 2 0 port.Ready port.Ready [] 0 true false ∷ pipe 1 0 3 0 port.Ready port.Blocked [] 0 false false ∷ pipe 2 0 3 1 port.Blocked port.Blocked [] 0 false false ∷ pipe 3 0 4 0 port.Blocked port.Ready [] 0 false false ∷ pipe 4 0 5 0 port.Blocked port.Ready [] 0 false false ∷ [])
    []

abbrev pub w4 : World
w4 =
    at 4 1 true
    (the sum_shape 0 (record (no_progress 0) { sent = 1 }) true false ∷ the sum_shape 1 (no_progress 1) true false ∷ the sum_shape 2 (no_progress 1) true false ∷ the sum_shape 3 (no_progress 2) false false ∷ the sum_shape 4 (no_progress 1) false false ∷ the sum_shape 5 (no_progress 1) false false ∷ [])
    (pipe 0 0 1 0 port.Ready port.Ready (Some ((number 1 ∷ number 4 ∷ []) ∷ (number 2 ∷ number 5 ∷ []) ∷ (number 3 ∷ number 6 ∷ []) ∷ []) ∷ []) 1 true false ∷ pipe 1 1 2 0 port.Ready port.Ready (Some ((number 1 ∷ number 4 ∷ []) ∷ (number 2 ∷ number 5 ∷ []) ∷ (number 3 ∷ number 6 ∷ []) ∷ []) ∷ []) 0 true false ∷ pipe 1 0 3 0 port.Ready port.Blocked (Some ((number 1 ∷ number 4 ∷ []) ∷ (number 2 ∷ number 5 ∷ []) ∷ (number 3 ∷ number 6 ∷ []) ∷ []) ∷ []) 0 false false ∷ pipe 2 0 3 1 port.Blocked port.Blocked [] 0 false false ∷ pipe 3 0 4 0 port.Blocked port.Ready [] 0 false false ∷ pipe 4 0 5 0 port.Blocked port.Ready [] 0 false false ∷ [])
    []

abbrev pub w5 : World
w5 =
    at 5 1 true
    (the sum_shape 0 (record (no_progress 0) { sent = 1 }) true false ∷ the sum_shape 1 (no_progress 1) true false ∷ the sum_shape 2 (record (no_progress 1) { taken = (None ∷ []) ∷ [] }) true false ∷ the sum_shape 3 (no_progress 2) false false ∷ the sum_shape 4 (no_progress 1) false false ∷ the sum_shape 5 (no_progress 1) false false ∷ [])
    (pipe 0 0 1 0 port.Ready port.Ready (Some ((number 1 ∷ number 4 ∷ []) ∷ (number 2 ∷ number 5 ∷ []) ∷ (number 3 ∷ number 6 ∷ []) ∷ []) ∷ []) 1 true false ∷ pipe 1 1 2 0 port.Ready port.Ready (Some ((number 1 ∷ number 4 ∷ []) ∷ (number 2 ∷ number 5 ∷ []) ∷ (number 3 ∷ number 6 ∷ []) ∷ []) ∷ []) 1 true false ∷ pipe 1 0 3 0 port.Ready port.Blocked (Some ((number 1 ∷ number 4 ∷ []) ∷ (number 2 ∷ number 5 ∷ []) ∷ (number 3 ∷ number 6 ∷ []) ∷ []) ∷ []) 0 false false ∷ pipe 2 0 3 1 port.Blocked port.Blocked [] 0 false false ∷ pipe 3 0 4 0 port.Blocked port.Ready [] 0 false false ∷ pipe 4 0 5 0 port.Blocked port.Ready [] 0 false false ∷ [])
    (piece 2 0 0 0 0 (keeps (at_place sum_shape 2)) (ab_schema ∷ []) (((number 1 ∷ number 4 ∷ []) ∷ (number 2 ∷ number 5 ∷ []) ∷ (number 3 ∷ number 6 ∷ []) ∷ []) ∷ []) ∷ [])

abbrev pub w6 : World
w6 =
    at 6 1 true
    (the sum_shape 0 (record (no_progress 0) { sent = 1 }) true false ∷ the sum_shape 1 (no_progress 1) true false ∷ the sum_shape 2 (record (no_progress 1) { taken = (Some ((number 1 ∷ number 4 ∷ []) ∷ (number 2 ∷ number 5 ∷ []) ∷ (number 3 ∷ number 6 ∷ []) ∷ []) ∷ []) ∷ [] }) true false ∷ the sum_shape 3 (no_progress 2) false false ∷ the sum_shape 4 (no_progress 1) false false ∷ the sum_shape 5 (no_progress 1) false false ∷ [])
    (pipe 0 0 1 0 port.Ready port.Ready (Some ((number 1 ∷ number 4 ∷ []) ∷ (number 2 ∷ number 5 ∷ []) ∷ (number 3 ∷ number 6 ∷ []) ∷ []) ∷ []) 1 true false ∷ pipe 1 1 2 0 port.Ready port.Ready (Some ((number 1 ∷ number 4 ∷ []) ∷ (number 2 ∷ number 5 ∷ []) ∷ (number 3 ∷ number 6 ∷ []) ∷ []) ∷ []) 1 true false ∷ pipe 1 0 3 0 port.Ready port.Blocked (Some ((number 1 ∷ number 4 ∷ []) ∷ (number 2 ∷ number 5 ∷ []) ∷ (number 3 ∷ number 6 ∷ []) ∷ []) ∷ []) 0 false false ∷ pipe 2 0 3 1 port.Blocked port.Blocked [] 0 false false ∷ pipe 3 0 4 0 port.Blocked port.Ready [] 0 false false ∷ pipe 4 0 5 0 port.Blocked port.Ready [] 0 false false ∷ [])
    []

abbrev pub w7 : World
w7 =
    at 7 1 true
    (the sum_shape 0 (record (no_progress 0) { sent = 1 }) true true ∷ the sum_shape 1 (no_progress 1) true false ∷ the sum_shape 2 (record (no_progress 1) { taken = (Some ((number 1 ∷ number 4 ∷ []) ∷ (number 2 ∷ number 5 ∷ []) ∷ (number 3 ∷ number 6 ∷ []) ∷ []) ∷ []) ∷ [] }) true false ∷ the sum_shape 3 (no_progress 2) false false ∷ the sum_shape 4 (no_progress 1) false false ∷ the sum_shape 5 (no_progress 1) false false ∷ [])
    (pipe 0 0 1 0 port.Ready port.Ready (Some ((number 1 ∷ number 4 ∷ []) ∷ (number 2 ∷ number 5 ∷ []) ∷ (number 3 ∷ number 6 ∷ []) ∷ []) ∷ []) 1 true true ∷ pipe 1 1 2 0 port.Ready port.Ready (Some ((number 1 ∷ number 4 ∷ []) ∷ (number 2 ∷ number 5 ∷ []) ∷ (number 3 ∷ number 6 ∷ []) ∷ []) ∷ []) 1 true false ∷ pipe 1 0 3 0 port.Ready port.Blocked (Some ((number 1 ∷ number 4 ∷ []) ∷ (number 2 ∷ number 5 ∷ []) ∷ (number 3 ∷ number 6 ∷ []) ∷ []) ∷ []) 0 false false ∷ pipe 2 0 3 1 port.Blocked port.Blocked [] 0 false false ∷ pipe 3 0 4 0 port.Blocked port.Ready [] 0 false false ∷ pipe 4 0 5 0 port.Blocked port.Ready [] 0 false false ∷ [])
    []

abbrev pub w8 : World
w8 =
    at 8 1 true
    (the sum_shape 0 (record (no_progress 0) { sent = 1 }) true true ∷ the sum_shape 1 (no_progress 1) true true ∷ the sum_shape 2 (record (no_progress 1) { taken = (Some ((number 1 ∷ number 4 ∷ []) ∷ (number 2 ∷ number 5 ∷ []) ∷ (number 3 ∷ number 6 ∷ []) ∷ []) ∷ []) ∷ [] }) true false ∷ the sum_shape 3 (no_progress 2) false false ∷ the sum_shape 4 (no_progress 1) false false ∷ the sum_shape 5 (no_progress 1) false false ∷ [])
    (pipe 0 0 1 0 port.Ready port.Ready (Some ((number 1 ∷ number 4 ∷ []) ∷ (number 2 ∷ number 5 ∷ []) ∷ (number 3 ∷ number 6 ∷ []) ∷ []) ∷ []) 1 true true ∷ pipe 1 1 2 0 port.Ready port.Ready (Some ((number 1 ∷ number 4 ∷ []) ∷ (number 2 ∷ number 5 ∷ []) ∷ (number 3 ∷ number 6 ∷ []) ∷ []) ∷ []) 1 true true ∷ pipe 1 0 3 0 port.Ready port.Blocked (Some ((number 1 ∷ number 4 ∷ []) ∷ (number 2 ∷ number 5 ∷ []) ∷ (number 3 ∷ number 6 ∷ []) ∷ []) ∷ []) 0 false false ∷ pipe 2 0 3 1 port.Blocked port.Blocked [] 0 false false ∷ pipe 3 0 4 0 port.Blocked port.Ready [] 0 false false ∷ pipe 4 0 5 0 port.Blocked port.Ready [] 0 false false ∷ [])
    []

abbrev pub w9 : World
w9 =
    at 9 1 true
    (the sum_shape 0 (record (no_progress 0) { sent = 1 }) true true ∷ the sum_shape 1 (no_progress 1) true true ∷ the sum_shape 2 (record (no_progress 1) { taken = (Some ((number 1 ∷ number 4 ∷ []) ∷ (number 2 ∷ number 5 ∷ []) ∷ (number 3 ∷ number 6 ∷ []) ∷ []) ∷ []) ∷ [] }) true true ∷ the sum_shape 3 (no_progress 2) false false ∷ the sum_shape 4 (no_progress 1) false false ∷ the sum_shape 5 (no_progress 1) false false ∷ [])
    (pipe 0 0 1 0 port.Ready port.Ready (Some ((number 1 ∷ number 4 ∷ []) ∷ (number 2 ∷ number 5 ∷ []) ∷ (number 3 ∷ number 6 ∷ []) ∷ []) ∷ []) 1 true true ∷ pipe 1 1 2 0 port.Ready port.Ready (Some ((number 1 ∷ number 4 ∷ []) ∷ (number 2 ∷ number 5 ∷ []) ∷ (number 3 ∷ number 6 ∷ []) ∷ []) ∷ []) 1 true true ∷ pipe 1 0 3 0 port.Ready port.Blocked (Some ((number 1 ∷ number 4 ∷ []) ∷ (number 2 ∷ number 5 ∷ []) ∷ (number 3 ∷ number 6 ∷ []) ∷ []) ∷ []) 0 false false ∷ pipe 2 0 3 1 port.Blocked port.Blocked [] 0 false false ∷ pipe 3 0 4 0 port.Blocked port.Ready [] 0 false false ∷ pipe 4 0 5 0 port.Blocked port.Ready [] 0 false false ∷ [])
    []

abbrev pub w10 : World
w10 =
    at 10 1 false
    (the sum_shape 0 (record (no_progress 0) { sent = 1 }) false false ∷ the sum_shape 1 (no_progress 1) false false ∷ the sum_shape 2 (record (no_progress 1) { taken = (Some ((number 1 ∷ number 4 ∷ []) ∷ (number 2 ∷ number 5 ∷ []) ∷ (number 3 ∷ number 6 ∷ []) ∷ []) ∷ []) ∷ [] }) false false ∷ the sum_shape 3 (no_progress 2) false false ∷ the sum_shape 4 (no_progress 1) false false ∷ the sum_shape 5 (no_progress 1) false false ∷ [])
    (pipe 0 0 1 0 port.Ready port.Ready (Some ((number 1 ∷ number 4 ∷ []) ∷ (number 2 ∷ number 5 ∷ []) ∷ (number 3 ∷ number 6 ∷ []) ∷ []) ∷ []) 1 false false ∷ pipe 1 1 2 0 port.Ready port.Ready (Some ((number 1 ∷ number 4 ∷ []) ∷ (number 2 ∷ number 5 ∷ []) ∷ (number 3 ∷ number 6 ∷ []) ∷ []) ∷ []) 1 false false ∷ pipe 1 0 3 0 port.Ready port.Blocked (Some ((number 1 ∷ number 4 ∷ []) ∷ (number 2 ∷ number 5 ∷ []) ∷ (number 3 ∷ number 6 ∷ []) ∷ []) ∷ []) 0 false false ∷ pipe 2 0 3 1 port.Blocked port.Blocked [] 0 false false ∷ pipe 3 0 4 0 port.Blocked port.Ready [] 0 false false ∷ pipe 4 0 5 0 port.Blocked port.Ready [] 0 false false ∷ [])
    []

abbrev pub s2 : World
s2 =
    at 10 1 false
    (the sum_shape 0 (record (no_progress 0) { sent = 1 }) false false ∷ the sum_shape 1 (no_progress 1) false false ∷ the sum_shape 2 (record (no_progress 1) { stage = giving; taken = (Some ((number 1 ∷ number 4 ∷ []) ∷ (number 2 ∷ number 5 ∷ []) ∷ (number 3 ∷ number 6 ∷ []) ∷ []) ∷ []) ∷ [] }) false false ∷ the sum_shape 3 (no_progress 2) false false ∷ the sum_shape 4 (no_progress 1) false false ∷ the sum_shape 5 (no_progress 1) false false ∷ [])
    (pipe 0 0 1 0 port.Done port.Done (Some ((number 1 ∷ number 4 ∷ []) ∷ (number 2 ∷ number 5 ∷ []) ∷ (number 3 ∷ number 6 ∷ []) ∷ []) ∷ []) 1 false false ∷ pipe 1 1 2 0 port.Done port.Done (Some ((number 1 ∷ number 4 ∷ []) ∷ (number 2 ∷ number 5 ∷ []) ∷ (number 3 ∷ number 6 ∷ []) ∷ []) ∷ []) 1 false false ∷ pipe 1 0 3 0 port.Ready port.Ready (Some ((number 1 ∷ number 4 ∷ []) ∷ (number 2 ∷ number 5 ∷ []) ∷ (number 3 ∷ number 6 ∷ []) ∷ []) ∷ []) 0 false false ∷ pipe 2 0 3 1 port.Ready port.Ready [] 0 false false ∷ pipe 3 0 4 0 port.Ready port.Ready [] 0 false false ∷ pipe 4 0 5 0 port.Ready port.Ready [] 0 false false ∷ [])
    []

abbrev pub w11 : World
w11 =
    at 11 2 true
    (the sum_shape 0 (record (no_progress 0) { sent = 1 }) false false ∷ the sum_shape 1 (no_progress 1) true false ∷ the sum_shape 2 (record (no_progress 1) { stage = giving; taken = (Some ((number 1 ∷ number 4 ∷ []) ∷ (number 2 ∷ number 5 ∷ []) ∷ (number 3 ∷ number 6 ∷ []) ∷ []) ∷ []) ∷ [] }) true false ∷ the sum_shape 3 (no_progress 2) true false ∷ the sum_shape 4 (no_progress 1) true false ∷ the sum_shape 5 (no_progress 1) true false ∷ [])
    (pipe 0 0 1 0 port.Done port.Done (Some ((number 1 ∷ number 4 ∷ []) ∷ (number 2 ∷ number 5 ∷ []) ∷ (number 3 ∷ number 6 ∷ []) ∷ []) ∷ []) 1 false false ∷ pipe 1 1 2 0 port.Done port.Done (Some ((number 1 ∷ number 4 ∷ []) ∷ (number 2 ∷ number 5 ∷ []) ∷ (number 3 ∷ number 6 ∷ []) ∷ []) ∷ []) 1 false false ∷ pipe 1 0 3 0 port.Ready port.Ready (Some ((number 1 ∷ number 4 ∷ []) ∷ (number 2 ∷ number 5 ∷ []) ∷ (number 3 ∷ number 6 ∷ []) ∷ []) ∷ []) 0 true false ∷ pipe 2 0 3 1 port.Ready port.Ready [] 0 true false ∷ pipe 3 0 4 0 port.Ready port.Ready [] 0 true false ∷ pipe 4 0 5 0 port.Ready port.Ready [] 0 true false ∷ [])
    []

abbrev pub w12 : World
w12 =
    at 12 2 true
    (the sum_shape 0 (record (no_progress 0) { sent = 1 }) false false ∷ the sum_shape 1 (no_progress 1) true false ∷ the sum_shape 2 (record (no_progress 1) { stage = giving; sent = 1; taken = (Some ((number 1 ∷ number 4 ∷ []) ∷ (number 2 ∷ number 5 ∷ []) ∷ (number 3 ∷ number 6 ∷ []) ∷ []) ∷ []) ∷ [] }) true false ∷ the sum_shape 3 (no_progress 2) true false ∷ the sum_shape 4 (no_progress 1) true false ∷ the sum_shape 5 (no_progress 1) true false ∷ [])
    (pipe 0 0 1 0 port.Done port.Done (Some ((number 1 ∷ number 4 ∷ []) ∷ (number 2 ∷ number 5 ∷ []) ∷ (number 3 ∷ number 6 ∷ []) ∷ []) ∷ []) 1 false false ∷ pipe 1 1 2 0 port.Done port.Done (Some ((number 1 ∷ number 4 ∷ []) ∷ (number 2 ∷ number 5 ∷ []) ∷ (number 3 ∷ number 6 ∷ []) ∷ []) ∷ []) 1 false false ∷ pipe 1 0 3 0 port.Ready port.Ready (Some ((number 1 ∷ number 4 ∷ []) ∷ (number 2 ∷ number 5 ∷ []) ∷ (number 3 ∷ number 6 ∷ []) ∷ []) ∷ []) 0 true false ∷ pipe 2 0 3 1 port.Ready port.Ready (None ∷ []) 0 true false ∷ pipe 3 0 4 0 port.Ready port.Ready [] 0 true false ∷ pipe 4 0 5 0 port.Ready port.Ready [] 0 true false ∷ [])
    (piece 2 0 0 0 0 (computes (at_place sum_shape 2)) (ab_schema ∷ []) (((number 1 ∷ number 4 ∷ []) ∷ (number 2 ∷ number 5 ∷ []) ∷ (number 3 ∷ number 6 ∷ []) ∷ []) ∷ []) ∷ [])

abbrev pub w13 : World
w13 =
    at 13 2 true
    (the sum_shape 0 (record (no_progress 0) { sent = 1 }) false false ∷ the sum_shape 1 (no_progress 1) true false ∷ the sum_shape 2 (record (no_progress 1) { stage = giving; sent = 1; taken = (Some ((number 1 ∷ number 4 ∷ []) ∷ (number 2 ∷ number 5 ∷ []) ∷ (number 3 ∷ number 6 ∷ []) ∷ []) ∷ []) ∷ [] }) true false ∷ the sum_shape 3 (no_progress 2) true false ∷ the sum_shape 4 (no_progress 1) true false ∷ the sum_shape 5 (no_progress 1) true false ∷ [])
    (pipe 0 0 1 0 port.Done port.Done (Some ((number 1 ∷ number 4 ∷ []) ∷ (number 2 ∷ number 5 ∷ []) ∷ (number 3 ∷ number 6 ∷ []) ∷ []) ∷ []) 1 false false ∷ pipe 1 1 2 0 port.Done port.Done (Some ((number 1 ∷ number 4 ∷ []) ∷ (number 2 ∷ number 5 ∷ []) ∷ (number 3 ∷ number 6 ∷ []) ∷ []) ∷ []) 1 false false ∷ pipe 1 0 3 0 port.Ready port.Ready (Some ((number 1 ∷ number 4 ∷ []) ∷ (number 2 ∷ number 5 ∷ []) ∷ (number 3 ∷ number 6 ∷ []) ∷ []) ∷ []) 0 true false ∷ pipe 2 0 3 1 port.Ready port.Ready (Some ((number 6 ∷ []) ∷ []) ∷ []) 0 true false ∷ pipe 3 0 4 0 port.Ready port.Ready [] 0 true false ∷ pipe 4 0 5 0 port.Ready port.Ready [] 0 true false ∷ [])
    []

abbrev pub w14 : World
w14 =
    at 14 2 true
    (the sum_shape 0 (record (no_progress 0) { sent = 1 }) false false ∷ the sum_shape 1 (no_progress 1) true false ∷ the sum_shape 2 (record (no_progress 1) { stage = giving; sent = 1; taken = (Some ((number 1 ∷ number 4 ∷ []) ∷ (number 2 ∷ number 5 ∷ []) ∷ (number 3 ∷ number 6 ∷ []) ∷ []) ∷ []) ∷ [] }) true false ∷ the sum_shape 3 (record (no_progress 2) { stores = (((number 1 ∷ number 4 ∷ []) ∷ (number 2 ∷ number 5 ∷ []) ∷ (number 3 ∷ number 6 ∷ []) ∷ []) ∷ []) ∷ [] ∷ [] }) true false ∷ the sum_shape 4 (no_progress 1) true false ∷ the sum_shape 5 (no_progress 1) true false ∷ [])
    (pipe 0 0 1 0 port.Done port.Done (Some ((number 1 ∷ number 4 ∷ []) ∷ (number 2 ∷ number 5 ∷ []) ∷ (number 3 ∷ number 6 ∷ []) ∷ []) ∷ []) 1 false false ∷ pipe 1 1 2 0 port.Done port.Done (Some ((number 1 ∷ number 4 ∷ []) ∷ (number 2 ∷ number 5 ∷ []) ∷ (number 3 ∷ number 6 ∷ []) ∷ []) ∷ []) 1 false false ∷ pipe 1 0 3 0 port.Ready port.Ready (Some ((number 1 ∷ number 4 ∷ []) ∷ (number 2 ∷ number 5 ∷ []) ∷ (number 3 ∷ number 6 ∷ []) ∷ []) ∷ []) 1 true false ∷ pipe 2 0 3 1 port.Ready port.Ready (Some ((number 6 ∷ []) ∷ []) ∷ []) 0 true false ∷ pipe 3 0 4 0 port.Ready port.Ready [] 0 true false ∷ pipe 4 0 5 0 port.Ready port.Ready [] 0 true false ∷ [])
    []

abbrev pub w15 : World
w15 =
    at 15 2 true
    (the sum_shape 0 (record (no_progress 0) { sent = 1 }) false false ∷ the sum_shape 1 (no_progress 1) true false ∷ the sum_shape 2 (record (no_progress 1) { stage = giving; sent = 1; taken = (Some ((number 1 ∷ number 4 ∷ []) ∷ (number 2 ∷ number 5 ∷ []) ∷ (number 3 ∷ number 6 ∷ []) ∷ []) ∷ []) ∷ [] }) true false ∷ the sum_shape 3 (record (no_progress 2) { stores = (((number 1 ∷ number 4 ∷ []) ∷ (number 2 ∷ number 5 ∷ []) ∷ (number 3 ∷ number 6 ∷ []) ∷ []) ∷ []) ∷ (((number 6 ∷ []) ∷ []) ∷ []) ∷ [] }) true false ∷ the sum_shape 4 (no_progress 1) true false ∷ the sum_shape 5 (no_progress 1) true false ∷ [])
    (pipe 0 0 1 0 port.Done port.Done (Some ((number 1 ∷ number 4 ∷ []) ∷ (number 2 ∷ number 5 ∷ []) ∷ (number 3 ∷ number 6 ∷ []) ∷ []) ∷ []) 1 false false ∷ pipe 1 1 2 0 port.Done port.Done (Some ((number 1 ∷ number 4 ∷ []) ∷ (number 2 ∷ number 5 ∷ []) ∷ (number 3 ∷ number 6 ∷ []) ∷ []) ∷ []) 1 false false ∷ pipe 1 0 3 0 port.Ready port.Ready (Some ((number 1 ∷ number 4 ∷ []) ∷ (number 2 ∷ number 5 ∷ []) ∷ (number 3 ∷ number 6 ∷ []) ∷ []) ∷ []) 1 true false ∷ pipe 2 0 3 1 port.Ready port.Ready (Some ((number 6 ∷ []) ∷ []) ∷ []) 1 true false ∷ pipe 3 0 4 0 port.Ready port.Ready [] 0 true false ∷ pipe 4 0 5 0 port.Ready port.Ready [] 0 true false ∷ [])
    []

abbrev pub w16 : World
w16 =
    at 16 2 true
    (the sum_shape 0 (record (no_progress 0) { sent = 1 }) false false ∷ the sum_shape 1 (no_progress 1) true false ∷ the sum_shape 2 (record (no_progress 1) { stage = giving; sent = 1; taken = (Some ((number 1 ∷ number 4 ∷ []) ∷ (number 2 ∷ number 5 ∷ []) ∷ (number 3 ∷ number 6 ∷ []) ∷ []) ∷ []) ∷ [] }) true true ∷ the sum_shape 3 (record (no_progress 2) { stores = (((number 1 ∷ number 4 ∷ []) ∷ (number 2 ∷ number 5 ∷ []) ∷ (number 3 ∷ number 6 ∷ []) ∷ []) ∷ []) ∷ (((number 6 ∷ []) ∷ []) ∷ []) ∷ [] }) true false ∷ the sum_shape 4 (no_progress 1) true false ∷ the sum_shape 5 (no_progress 1) true false ∷ [])
    (pipe 0 0 1 0 port.Done port.Done (Some ((number 1 ∷ number 4 ∷ []) ∷ (number 2 ∷ number 5 ∷ []) ∷ (number 3 ∷ number 6 ∷ []) ∷ []) ∷ []) 1 false false ∷ pipe 1 1 2 0 port.Done port.Done (Some ((number 1 ∷ number 4 ∷ []) ∷ (number 2 ∷ number 5 ∷ []) ∷ (number 3 ∷ number 6 ∷ []) ∷ []) ∷ []) 1 false false ∷ pipe 1 0 3 0 port.Ready port.Ready (Some ((number 1 ∷ number 4 ∷ []) ∷ (number 2 ∷ number 5 ∷ []) ∷ (number 3 ∷ number 6 ∷ []) ∷ []) ∷ []) 1 true false ∷ pipe 2 0 3 1 port.Ready port.Ready (Some ((number 6 ∷ []) ∷ []) ∷ []) 1 true true ∷ pipe 3 0 4 0 port.Ready port.Ready [] 0 true false ∷ pipe 4 0 5 0 port.Ready port.Ready [] 0 true false ∷ [])
    []

abbrev pub w17 : World
w17 =
    at 17 2 true
    (the sum_shape 0 (record (no_progress 0) { sent = 1 }) false false ∷ the sum_shape 1 (no_progress 1) true true ∷ the sum_shape 2 (record (no_progress 1) { stage = giving; sent = 1; taken = (Some ((number 1 ∷ number 4 ∷ []) ∷ (number 2 ∷ number 5 ∷ []) ∷ (number 3 ∷ number 6 ∷ []) ∷ []) ∷ []) ∷ [] }) true true ∷ the sum_shape 3 (record (no_progress 2) { stores = (((number 1 ∷ number 4 ∷ []) ∷ (number 2 ∷ number 5 ∷ []) ∷ (number 3 ∷ number 6 ∷ []) ∷ []) ∷ []) ∷ (((number 6 ∷ []) ∷ []) ∷ []) ∷ [] }) true false ∷ the sum_shape 4 (no_progress 1) true false ∷ the sum_shape 5 (no_progress 1) true false ∷ [])
    (pipe 0 0 1 0 port.Done port.Done (Some ((number 1 ∷ number 4 ∷ []) ∷ (number 2 ∷ number 5 ∷ []) ∷ (number 3 ∷ number 6 ∷ []) ∷ []) ∷ []) 1 false false ∷ pipe 1 1 2 0 port.Done port.Done (Some ((number 1 ∷ number 4 ∷ []) ∷ (number 2 ∷ number 5 ∷ []) ∷ (number 3 ∷ number 6 ∷ []) ∷ []) ∷ []) 1 false false ∷ pipe 1 0 3 0 port.Ready port.Ready (Some ((number 1 ∷ number 4 ∷ []) ∷ (number 2 ∷ number 5 ∷ []) ∷ (number 3 ∷ number 6 ∷ []) ∷ []) ∷ []) 1 true true ∷ pipe 2 0 3 1 port.Ready port.Ready (Some ((number 6 ∷ []) ∷ []) ∷ []) 1 true true ∷ pipe 3 0 4 0 port.Ready port.Ready [] 0 true false ∷ pipe 4 0 5 0 port.Ready port.Ready [] 0 true false ∷ [])
    []

abbrev pub w18 : World
w18 =
    at 18 2 true
    (the sum_shape 0 (record (no_progress 0) { sent = 1 }) false false ∷ the sum_shape 1 (no_progress 1) true true ∷ the sum_shape 2 (record (no_progress 1) { stage = giving; sent = 1; taken = (Some ((number 1 ∷ number 4 ∷ []) ∷ (number 2 ∷ number 5 ∷ []) ∷ (number 3 ∷ number 6 ∷ []) ∷ []) ∷ []) ∷ [] }) true true ∷ the sum_shape 3 (record (no_progress 2) { stores = (((number 1 ∷ number 4 ∷ []) ∷ (number 2 ∷ number 5 ∷ []) ∷ (number 3 ∷ number 6 ∷ []) ∷ []) ∷ []) ∷ (((number 6 ∷ []) ∷ []) ∷ []) ∷ [] }) true true ∷ the sum_shape 4 (no_progress 1) true false ∷ the sum_shape 5 (no_progress 1) true false ∷ [])
    (pipe 0 0 1 0 port.Done port.Done (Some ((number 1 ∷ number 4 ∷ []) ∷ (number 2 ∷ number 5 ∷ []) ∷ (number 3 ∷ number 6 ∷ []) ∷ []) ∷ []) 1 false false ∷ pipe 1 1 2 0 port.Done port.Done (Some ((number 1 ∷ number 4 ∷ []) ∷ (number 2 ∷ number 5 ∷ []) ∷ (number 3 ∷ number 6 ∷ []) ∷ []) ∷ []) 1 false false ∷ pipe 1 0 3 0 port.Ready port.Ready (Some ((number 1 ∷ number 4 ∷ []) ∷ (number 2 ∷ number 5 ∷ []) ∷ (number 3 ∷ number 6 ∷ []) ∷ []) ∷ []) 1 true true ∷ pipe 2 0 3 1 port.Ready port.Ready (Some ((number 6 ∷ []) ∷ []) ∷ []) 1 true true ∷ pipe 3 0 4 0 port.Ready port.Ready [] 0 true true ∷ pipe 4 0 5 0 port.Ready port.Ready [] 0 true false ∷ [])
    []

abbrev pub w19 : World
w19 =
    at 19 2 true
    (the sum_shape 0 (record (no_progress 0) { sent = 1 }) false false ∷ the sum_shape 1 (no_progress 1) true true ∷ the sum_shape 2 (record (no_progress 1) { stage = giving; sent = 1; taken = (Some ((number 1 ∷ number 4 ∷ []) ∷ (number 2 ∷ number 5 ∷ []) ∷ (number 3 ∷ number 6 ∷ []) ∷ []) ∷ []) ∷ [] }) true true ∷ the sum_shape 3 (record (no_progress 2) { stores = (((number 1 ∷ number 4 ∷ []) ∷ (number 2 ∷ number 5 ∷ []) ∷ (number 3 ∷ number 6 ∷ []) ∷ []) ∷ []) ∷ (((number 6 ∷ []) ∷ []) ∷ []) ∷ [] }) true true ∷ the sum_shape 4 (no_progress 1) true true ∷ the sum_shape 5 (no_progress 1) true false ∷ [])
    (pipe 0 0 1 0 port.Done port.Done (Some ((number 1 ∷ number 4 ∷ []) ∷ (number 2 ∷ number 5 ∷ []) ∷ (number 3 ∷ number 6 ∷ []) ∷ []) ∷ []) 1 false false ∷ pipe 1 1 2 0 port.Done port.Done (Some ((number 1 ∷ number 4 ∷ []) ∷ (number 2 ∷ number 5 ∷ []) ∷ (number 3 ∷ number 6 ∷ []) ∷ []) ∷ []) 1 false false ∷ pipe 1 0 3 0 port.Ready port.Ready (Some ((number 1 ∷ number 4 ∷ []) ∷ (number 2 ∷ number 5 ∷ []) ∷ (number 3 ∷ number 6 ∷ []) ∷ []) ∷ []) 1 true true ∷ pipe 2 0 3 1 port.Ready port.Ready (Some ((number 6 ∷ []) ∷ []) ∷ []) 1 true true ∷ pipe 3 0 4 0 port.Ready port.Ready [] 0 true true ∷ pipe 4 0 5 0 port.Ready port.Ready [] 0 true true ∷ [])
    []

abbrev pub w20 : World
w20 =
    at 20 2 true
    (the sum_shape 0 (record (no_progress 0) { sent = 1 }) false false ∷ the sum_shape 1 (no_progress 1) true true ∷ the sum_shape 2 (record (no_progress 1) { stage = giving; sent = 1; taken = (Some ((number 1 ∷ number 4 ∷ []) ∷ (number 2 ∷ number 5 ∷ []) ∷ (number 3 ∷ number 6 ∷ []) ∷ []) ∷ []) ∷ [] }) true true ∷ the sum_shape 3 (record (no_progress 2) { stores = (((number 1 ∷ number 4 ∷ []) ∷ (number 2 ∷ number 5 ∷ []) ∷ (number 3 ∷ number 6 ∷ []) ∷ []) ∷ []) ∷ (((number 6 ∷ []) ∷ []) ∷ []) ∷ [] }) true true ∷ the sum_shape 4 (no_progress 1) true true ∷ the sum_shape 5 (no_progress 1) true true ∷ [])
    (pipe 0 0 1 0 port.Done port.Done (Some ((number 1 ∷ number 4 ∷ []) ∷ (number 2 ∷ number 5 ∷ []) ∷ (number 3 ∷ number 6 ∷ []) ∷ []) ∷ []) 1 false false ∷ pipe 1 1 2 0 port.Done port.Done (Some ((number 1 ∷ number 4 ∷ []) ∷ (number 2 ∷ number 5 ∷ []) ∷ (number 3 ∷ number 6 ∷ []) ∷ []) ∷ []) 1 false false ∷ pipe 1 0 3 0 port.Ready port.Ready (Some ((number 1 ∷ number 4 ∷ []) ∷ (number 2 ∷ number 5 ∷ []) ∷ (number 3 ∷ number 6 ∷ []) ∷ []) ∷ []) 1 true true ∷ pipe 2 0 3 1 port.Ready port.Ready (Some ((number 6 ∷ []) ∷ []) ∷ []) 1 true true ∷ pipe 3 0 4 0 port.Ready port.Ready [] 0 true true ∷ pipe 4 0 5 0 port.Ready port.Ready [] 0 true true ∷ [])
    []

abbrev pub w21 : World
w21 =
    at 21 2 false
    (the sum_shape 0 (record (no_progress 0) { sent = 1 }) false false ∷ the sum_shape 1 (no_progress 1) false false ∷ the sum_shape 2 (record (no_progress 1) { stage = giving; sent = 1; taken = (Some ((number 1 ∷ number 4 ∷ []) ∷ (number 2 ∷ number 5 ∷ []) ∷ (number 3 ∷ number 6 ∷ []) ∷ []) ∷ []) ∷ [] }) false false ∷ the sum_shape 3 (record (no_progress 2) { stores = (((number 1 ∷ number 4 ∷ []) ∷ (number 2 ∷ number 5 ∷ []) ∷ (number 3 ∷ number 6 ∷ []) ∷ []) ∷ []) ∷ (((number 6 ∷ []) ∷ []) ∷ []) ∷ [] }) false false ∷ the sum_shape 4 (no_progress 1) false false ∷ the sum_shape 5 (no_progress 1) false false ∷ [])
    (pipe 0 0 1 0 port.Done port.Done (Some ((number 1 ∷ number 4 ∷ []) ∷ (number 2 ∷ number 5 ∷ []) ∷ (number 3 ∷ number 6 ∷ []) ∷ []) ∷ []) 1 false false ∷ pipe 1 1 2 0 port.Done port.Done (Some ((number 1 ∷ number 4 ∷ []) ∷ (number 2 ∷ number 5 ∷ []) ∷ (number 3 ∷ number 6 ∷ []) ∷ []) ∷ []) 1 false false ∷ pipe 1 0 3 0 port.Ready port.Ready (Some ((number 1 ∷ number 4 ∷ []) ∷ (number 2 ∷ number 5 ∷ []) ∷ (number 3 ∷ number 6 ∷ []) ∷ []) ∷ []) 1 false false ∷ pipe 2 0 3 1 port.Ready port.Ready (Some ((number 6 ∷ []) ∷ []) ∷ []) 1 false false ∷ pipe 3 0 4 0 port.Ready port.Ready [] 0 false false ∷ pipe 4 0 5 0 port.Ready port.Ready [] 0 false false ∷ [])
    []

abbrev pub s3 : World
s3 =
    at 21 2 false
    (the sum_shape 0 (record (no_progress 0) { sent = 1 }) false false ∷ the sum_shape 1 (no_progress 1) false false ∷ the sum_shape 2 (record (no_progress 1) { stage = spent; sent = 1; taken = (Some ((number 1 ∷ number 4 ∷ []) ∷ (number 2 ∷ number 5 ∷ []) ∷ (number 3 ∷ number 6 ∷ []) ∷ []) ∷ []) ∷ [] }) false false ∷ the sum_shape 3 (record (no_progress 2) { stores = (((number 1 ∷ number 4 ∷ []) ∷ (number 2 ∷ number 5 ∷ []) ∷ (number 3 ∷ number 6 ∷ []) ∷ []) ∷ []) ∷ (((number 6 ∷ []) ∷ []) ∷ []) ∷ [] }) false false ∷ the sum_shape 4 (no_progress 1) false false ∷ the sum_shape 5 (no_progress 1) false false ∷ [])
    (pipe 0 0 1 0 port.Done port.Done (Some ((number 1 ∷ number 4 ∷ []) ∷ (number 2 ∷ number 5 ∷ []) ∷ (number 3 ∷ number 6 ∷ []) ∷ []) ∷ []) 1 false false ∷ pipe 1 1 2 0 port.Done port.Done (Some ((number 1 ∷ number 4 ∷ []) ∷ (number 2 ∷ number 5 ∷ []) ∷ (number 3 ∷ number 6 ∷ []) ∷ []) ∷ []) 1 false false ∷ pipe 1 0 3 0 port.Done port.Done (Some ((number 1 ∷ number 4 ∷ []) ∷ (number 2 ∷ number 5 ∷ []) ∷ (number 3 ∷ number 6 ∷ []) ∷ []) ∷ []) 1 false false ∷ pipe 2 0 3 1 port.Done port.Done (Some ((number 6 ∷ []) ∷ []) ∷ []) 1 false false ∷ pipe 3 0 4 0 port.Ready port.Ready [] 0 false false ∷ pipe 4 0 5 0 port.Ready port.Ready [] 0 false false ∷ [])
    []

abbrev pub w22 : World
w22 =
    at 22 3 true
    (the sum_shape 0 (record (no_progress 0) { sent = 1 }) false false ∷ the sum_shape 1 (no_progress 1) false false ∷ the sum_shape 2 (record (no_progress 1) { stage = spent; sent = 1; taken = (Some ((number 1 ∷ number 4 ∷ []) ∷ (number 2 ∷ number 5 ∷ []) ∷ (number 3 ∷ number 6 ∷ []) ∷ []) ∷ []) ∷ [] }) false false ∷ the sum_shape 3 (record (no_progress 2) { stores = (((number 1 ∷ number 4 ∷ []) ∷ (number 2 ∷ number 5 ∷ []) ∷ (number 3 ∷ number 6 ∷ []) ∷ []) ∷ []) ∷ (((number 6 ∷ []) ∷ []) ∷ []) ∷ [] }) true false ∷ the sum_shape 4 (no_progress 1) true false ∷ the sum_shape 5 (no_progress 1) true false ∷ [])
    (pipe 0 0 1 0 port.Done port.Done (Some ((number 1 ∷ number 4 ∷ []) ∷ (number 2 ∷ number 5 ∷ []) ∷ (number 3 ∷ number 6 ∷ []) ∷ []) ∷ []) 1 false false ∷ pipe 1 1 2 0 port.Done port.Done (Some ((number 1 ∷ number 4 ∷ []) ∷ (number 2 ∷ number 5 ∷ []) ∷ (number 3 ∷ number 6 ∷ []) ∷ []) ∷ []) 1 false false ∷ pipe 1 0 3 0 port.Done port.Done (Some ((number 1 ∷ number 4 ∷ []) ∷ (number 2 ∷ number 5 ∷ []) ∷ (number 3 ∷ number 6 ∷ []) ∷ []) ∷ []) 1 false false ∷ pipe 2 0 3 1 port.Done port.Done (Some ((number 6 ∷ []) ∷ []) ∷ []) 1 false false ∷ pipe 3 0 4 0 port.Ready port.Ready [] 0 true false ∷ pipe 4 0 5 0 port.Ready port.Ready [] 0 true false ∷ [])
    []

abbrev pub w23 : World
w23 =
    at 23 3 true
    (the sum_shape 0 (record (no_progress 0) { sent = 1 }) false false ∷ the sum_shape 1 (no_progress 1) false false ∷ the sum_shape 2 (record (no_progress 1) { stage = spent; sent = 1; taken = (Some ((number 1 ∷ number 4 ∷ []) ∷ (number 2 ∷ number 5 ∷ []) ∷ (number 3 ∷ number 6 ∷ []) ∷ []) ∷ []) ∷ [] }) false false ∷ the sum_shape 3 (record (no_progress 2) { sent = 1; booked = 3; stores = (((number 1 ∷ number 4 ∷ []) ∷ (number 2 ∷ number 5 ∷ []) ∷ (number 3 ∷ number 6 ∷ []) ∷ []) ∷ []) ∷ (((number 6 ∷ []) ∷ []) ∷ []) ∷ [] }) true false ∷ the sum_shape 4 (no_progress 1) true false ∷ the sum_shape 5 (no_progress 1) true false ∷ [])
    (pipe 0 0 1 0 port.Done port.Done (Some ((number 1 ∷ number 4 ∷ []) ∷ (number 2 ∷ number 5 ∷ []) ∷ (number 3 ∷ number 6 ∷ []) ∷ []) ∷ []) 1 false false ∷ pipe 1 1 2 0 port.Done port.Done (Some ((number 1 ∷ number 4 ∷ []) ∷ (number 2 ∷ number 5 ∷ []) ∷ (number 3 ∷ number 6 ∷ []) ∷ []) ∷ []) 1 false false ∷ pipe 1 0 3 0 port.Done port.Done (Some ((number 1 ∷ number 4 ∷ []) ∷ (number 2 ∷ number 5 ∷ []) ∷ (number 3 ∷ number 6 ∷ []) ∷ []) ∷ []) 1 false false ∷ pipe 2 0 3 1 port.Done port.Done (Some ((number 6 ∷ []) ∷ []) ∷ []) 1 false false ∷ pipe 3 0 4 0 port.Ready port.Ready (None ∷ []) 0 true false ∷ pipe 4 0 5 0 port.Ready port.Ready [] 0 true false ∷ [])
    (piece 3 0 0 0 0 (computes (at_place sum_shape 3)) (ab_schema ∷ sum_schema ∷ []) (((number 1 ∷ number 4 ∷ []) ∷ (number 2 ∷ number 5 ∷ []) ∷ (number 3 ∷ number 6 ∷ []) ∷ []) ∷ ((number 6 ∷ []) ∷ []) ∷ []) ∷ [])

abbrev pub w24 : World
w24 =
    at 24 3 true
    (the sum_shape 0 (record (no_progress 0) { sent = 1 }) false false ∷ the sum_shape 1 (no_progress 1) false false ∷ the sum_shape 2 (record (no_progress 1) { stage = spent; sent = 1; taken = (Some ((number 1 ∷ number 4 ∷ []) ∷ (number 2 ∷ number 5 ∷ []) ∷ (number 3 ∷ number 6 ∷ []) ∷ []) ∷ []) ∷ [] }) false false ∷ the sum_shape 3 (record (no_progress 2) { sent = 1; booked = 3; stores = (((number 1 ∷ number 4 ∷ []) ∷ (number 2 ∷ number 5 ∷ []) ∷ (number 3 ∷ number 6 ∷ []) ∷ []) ∷ []) ∷ (((number 6 ∷ []) ∷ []) ∷ []) ∷ [] }) true false ∷ the sum_shape 4 (no_progress 1) true false ∷ the sum_shape 5 (no_progress 1) true false ∷ [])
    (pipe 0 0 1 0 port.Done port.Done (Some ((number 1 ∷ number 4 ∷ []) ∷ (number 2 ∷ number 5 ∷ []) ∷ (number 3 ∷ number 6 ∷ []) ∷ []) ∷ []) 1 false false ∷ pipe 1 1 2 0 port.Done port.Done (Some ((number 1 ∷ number 4 ∷ []) ∷ (number 2 ∷ number 5 ∷ []) ∷ (number 3 ∷ number 6 ∷ []) ∷ []) ∷ []) 1 false false ∷ pipe 1 0 3 0 port.Done port.Done (Some ((number 1 ∷ number 4 ∷ []) ∷ (number 2 ∷ number 5 ∷ []) ∷ (number 3 ∷ number 6 ∷ []) ∷ []) ∷ []) 1 false false ∷ pipe 2 0 3 1 port.Done port.Done (Some ((number 6 ∷ []) ∷ []) ∷ []) 1 false false ∷ pipe 3 0 4 0 port.Ready port.Ready (Some ((number 1 ∷ number 4 ∷ number 6 ∷ []) ∷ (number 2 ∷ number 5 ∷ number 6 ∷ []) ∷ (number 3 ∷ number 6 ∷ number 6 ∷ []) ∷ []) ∷ []) 0 true false ∷ pipe 4 0 5 0 port.Ready port.Ready [] 0 true false ∷ [])
    []

abbrev pub w25 : World
w25 =
    at 25 3 true
    (the sum_shape 0 (record (no_progress 0) { sent = 1 }) false false ∷ the sum_shape 1 (no_progress 1) false false ∷ the sum_shape 2 (record (no_progress 1) { stage = spent; sent = 1; taken = (Some ((number 1 ∷ number 4 ∷ []) ∷ (number 2 ∷ number 5 ∷ []) ∷ (number 3 ∷ number 6 ∷ []) ∷ []) ∷ []) ∷ [] }) false false ∷ the sum_shape 3 (record (no_progress 2) { sent = 1; booked = 3; stores = (((number 1 ∷ number 4 ∷ []) ∷ (number 2 ∷ number 5 ∷ []) ∷ (number 3 ∷ number 6 ∷ []) ∷ []) ∷ []) ∷ (((number 6 ∷ []) ∷ []) ∷ []) ∷ [] }) true false ∷ the sum_shape 4 (no_progress 1) true false ∷ the sum_shape 5 (no_progress 1) true false ∷ [])
    (pipe 0 0 1 0 port.Done port.Done (Some ((number 1 ∷ number 4 ∷ []) ∷ (number 2 ∷ number 5 ∷ []) ∷ (number 3 ∷ number 6 ∷ []) ∷ []) ∷ []) 1 false false ∷ pipe 1 1 2 0 port.Done port.Done (Some ((number 1 ∷ number 4 ∷ []) ∷ (number 2 ∷ number 5 ∷ []) ∷ (number 3 ∷ number 6 ∷ []) ∷ []) ∷ []) 1 false false ∷ pipe 1 0 3 0 port.Done port.Done (Some ((number 1 ∷ number 4 ∷ []) ∷ (number 2 ∷ number 5 ∷ []) ∷ (number 3 ∷ number 6 ∷ []) ∷ []) ∷ []) 1 false false ∷ pipe 2 0 3 1 port.Done port.Done (Some ((number 6 ∷ []) ∷ []) ∷ []) 1 false false ∷ pipe 3 0 4 0 port.Ready port.Ready (Some ((number 1 ∷ number 4 ∷ number 6 ∷ []) ∷ (number 2 ∷ number 5 ∷ number 6 ∷ []) ∷ (number 3 ∷ number 6 ∷ number 6 ∷ []) ∷ []) ∷ []) 1 true false ∷ pipe 4 0 5 0 port.Ready port.Ready (None ∷ []) 0 true false ∷ [])
    (piece 4 0 0 0 0 (computes (at_place sum_shape 4)) ((ab_schema ++ sum_schema) ∷ []) (((number 1 ∷ number 4 ∷ number 6 ∷ []) ∷ (number 2 ∷ number 5 ∷ number 6 ∷ []) ∷ (number 3 ∷ number 6 ∷ number 6 ∷ []) ∷ []) ∷ []) ∷ [])

abbrev pub w26 : World
w26 =
    at 26 3 true
    (the sum_shape 0 (record (no_progress 0) { sent = 1 }) false false ∷ the sum_shape 1 (no_progress 1) false false ∷ the sum_shape 2 (record (no_progress 1) { stage = spent; sent = 1; taken = (Some ((number 1 ∷ number 4 ∷ []) ∷ (number 2 ∷ number 5 ∷ []) ∷ (number 3 ∷ number 6 ∷ []) ∷ []) ∷ []) ∷ [] }) false false ∷ the sum_shape 3 (record (no_progress 2) { sent = 1; booked = 3; stores = (((number 1 ∷ number 4 ∷ []) ∷ (number 2 ∷ number 5 ∷ []) ∷ (number 3 ∷ number 6 ∷ []) ∷ []) ∷ []) ∷ (((number 6 ∷ []) ∷ []) ∷ []) ∷ [] }) true false ∷ the sum_shape 4 (no_progress 1) true false ∷ the sum_shape 5 (no_progress 1) true false ∷ [])
    (pipe 0 0 1 0 port.Done port.Done (Some ((number 1 ∷ number 4 ∷ []) ∷ (number 2 ∷ number 5 ∷ []) ∷ (number 3 ∷ number 6 ∷ []) ∷ []) ∷ []) 1 false false ∷ pipe 1 1 2 0 port.Done port.Done (Some ((number 1 ∷ number 4 ∷ []) ∷ (number 2 ∷ number 5 ∷ []) ∷ (number 3 ∷ number 6 ∷ []) ∷ []) ∷ []) 1 false false ∷ pipe 1 0 3 0 port.Done port.Done (Some ((number 1 ∷ number 4 ∷ []) ∷ (number 2 ∷ number 5 ∷ []) ∷ (number 3 ∷ number 6 ∷ []) ∷ []) ∷ []) 1 false false ∷ pipe 2 0 3 1 port.Done port.Done (Some ((number 6 ∷ []) ∷ []) ∷ []) 1 false false ∷ pipe 3 0 4 0 port.Ready port.Ready (Some ((number 1 ∷ number 4 ∷ number 6 ∷ []) ∷ (number 2 ∷ number 5 ∷ number 6 ∷ []) ∷ (number 3 ∷ number 6 ∷ number 6 ∷ []) ∷ []) ∷ []) 1 true false ∷ pipe 4 0 5 0 port.Ready port.Ready (Some ((number 6 ∷ number 4 ∷ []) ∷ (number 6 ∷ number 5 ∷ []) ∷ (number 6 ∷ number 6 ∷ []) ∷ []) ∷ []) 0 true false ∷ [])
    []

abbrev pub w27 : World
w27 =
    at 27 3 true
    (the sum_shape 0 (record (no_progress 0) { sent = 1 }) false false ∷ the sum_shape 1 (no_progress 1) false false ∷ the sum_shape 2 (record (no_progress 1) { stage = spent; sent = 1; taken = (Some ((number 1 ∷ number 4 ∷ []) ∷ (number 2 ∷ number 5 ∷ []) ∷ (number 3 ∷ number 6 ∷ []) ∷ []) ∷ []) ∷ [] }) false false ∷ the sum_shape 3 (record (no_progress 2) { sent = 1; booked = 3; stores = (((number 1 ∷ number 4 ∷ []) ∷ (number 2 ∷ number 5 ∷ []) ∷ (number 3 ∷ number 6 ∷ []) ∷ []) ∷ []) ∷ (((number 6 ∷ []) ∷ []) ∷ []) ∷ [] }) true false ∷ the sum_shape 4 (no_progress 1) true false ∷ the sum_shape 5 (record (no_progress 1) { stores = (((number 6 ∷ number 4 ∷ []) ∷ (number 6 ∷ number 5 ∷ []) ∷ (number 6 ∷ number 6 ∷ []) ∷ []) ∷ []) ∷ [] }) true false ∷ [])
    (pipe 0 0 1 0 port.Done port.Done (Some ((number 1 ∷ number 4 ∷ []) ∷ (number 2 ∷ number 5 ∷ []) ∷ (number 3 ∷ number 6 ∷ []) ∷ []) ∷ []) 1 false false ∷ pipe 1 1 2 0 port.Done port.Done (Some ((number 1 ∷ number 4 ∷ []) ∷ (number 2 ∷ number 5 ∷ []) ∷ (number 3 ∷ number 6 ∷ []) ∷ []) ∷ []) 1 false false ∷ pipe 1 0 3 0 port.Done port.Done (Some ((number 1 ∷ number 4 ∷ []) ∷ (number 2 ∷ number 5 ∷ []) ∷ (number 3 ∷ number 6 ∷ []) ∷ []) ∷ []) 1 false false ∷ pipe 2 0 3 1 port.Done port.Done (Some ((number 6 ∷ []) ∷ []) ∷ []) 1 false false ∷ pipe 3 0 4 0 port.Ready port.Ready (Some ((number 1 ∷ number 4 ∷ number 6 ∷ []) ∷ (number 2 ∷ number 5 ∷ number 6 ∷ []) ∷ (number 3 ∷ number 6 ∷ number 6 ∷ []) ∷ []) ∷ []) 1 true false ∷ pipe 4 0 5 0 port.Ready port.Ready (Some ((number 6 ∷ number 4 ∷ []) ∷ (number 6 ∷ number 5 ∷ []) ∷ (number 6 ∷ number 6 ∷ []) ∷ []) ∷ []) 1 true false ∷ [])
    []

abbrev pub w28 : World
w28 =
    at 28 3 true
    (the sum_shape 0 (record (no_progress 0) { sent = 1 }) false false ∷ the sum_shape 1 (no_progress 1) false false ∷ the sum_shape 2 (record (no_progress 1) { stage = spent; sent = 1; taken = (Some ((number 1 ∷ number 4 ∷ []) ∷ (number 2 ∷ number 5 ∷ []) ∷ (number 3 ∷ number 6 ∷ []) ∷ []) ∷ []) ∷ [] }) false false ∷ the sum_shape 3 (record (no_progress 2) { sent = 1; booked = 3; stores = (((number 1 ∷ number 4 ∷ []) ∷ (number 2 ∷ number 5 ∷ []) ∷ (number 3 ∷ number 6 ∷ []) ∷ []) ∷ []) ∷ (((number 6 ∷ []) ∷ []) ∷ []) ∷ [] }) true true ∷ the sum_shape 4 (no_progress 1) true false ∷ the sum_shape 5 (record (no_progress 1) { stores = (((number 6 ∷ number 4 ∷ []) ∷ (number 6 ∷ number 5 ∷ []) ∷ (number 6 ∷ number 6 ∷ []) ∷ []) ∷ []) ∷ [] }) true false ∷ [])
    (pipe 0 0 1 0 port.Done port.Done (Some ((number 1 ∷ number 4 ∷ []) ∷ (number 2 ∷ number 5 ∷ []) ∷ (number 3 ∷ number 6 ∷ []) ∷ []) ∷ []) 1 false false ∷ pipe 1 1 2 0 port.Done port.Done (Some ((number 1 ∷ number 4 ∷ []) ∷ (number 2 ∷ number 5 ∷ []) ∷ (number 3 ∷ number 6 ∷ []) ∷ []) ∷ []) 1 false false ∷ pipe 1 0 3 0 port.Done port.Done (Some ((number 1 ∷ number 4 ∷ []) ∷ (number 2 ∷ number 5 ∷ []) ∷ (number 3 ∷ number 6 ∷ []) ∷ []) ∷ []) 1 false false ∷ pipe 2 0 3 1 port.Done port.Done (Some ((number 6 ∷ []) ∷ []) ∷ []) 1 false false ∷ pipe 3 0 4 0 port.Ready port.Ready (Some ((number 1 ∷ number 4 ∷ number 6 ∷ []) ∷ (number 2 ∷ number 5 ∷ number 6 ∷ []) ∷ (number 3 ∷ number 6 ∷ number 6 ∷ []) ∷ []) ∷ []) 1 true true ∷ pipe 4 0 5 0 port.Ready port.Ready (Some ((number 6 ∷ number 4 ∷ []) ∷ (number 6 ∷ number 5 ∷ []) ∷ (number 6 ∷ number 6 ∷ []) ∷ []) ∷ []) 1 true false ∷ [])
    []

abbrev pub w29 : World
w29 =
    at 29 3 true
    (the sum_shape 0 (record (no_progress 0) { sent = 1 }) false false ∷ the sum_shape 1 (no_progress 1) false false ∷ the sum_shape 2 (record (no_progress 1) { stage = spent; sent = 1; taken = (Some ((number 1 ∷ number 4 ∷ []) ∷ (number 2 ∷ number 5 ∷ []) ∷ (number 3 ∷ number 6 ∷ []) ∷ []) ∷ []) ∷ [] }) false false ∷ the sum_shape 3 (record (no_progress 2) { sent = 1; booked = 3; stores = (((number 1 ∷ number 4 ∷ []) ∷ (number 2 ∷ number 5 ∷ []) ∷ (number 3 ∷ number 6 ∷ []) ∷ []) ∷ []) ∷ (((number 6 ∷ []) ∷ []) ∷ []) ∷ [] }) true true ∷ the sum_shape 4 (no_progress 1) true true ∷ the sum_shape 5 (record (no_progress 1) { stores = (((number 6 ∷ number 4 ∷ []) ∷ (number 6 ∷ number 5 ∷ []) ∷ (number 6 ∷ number 6 ∷ []) ∷ []) ∷ []) ∷ [] }) true false ∷ [])
    (pipe 0 0 1 0 port.Done port.Done (Some ((number 1 ∷ number 4 ∷ []) ∷ (number 2 ∷ number 5 ∷ []) ∷ (number 3 ∷ number 6 ∷ []) ∷ []) ∷ []) 1 false false ∷ pipe 1 1 2 0 port.Done port.Done (Some ((number 1 ∷ number 4 ∷ []) ∷ (number 2 ∷ number 5 ∷ []) ∷ (number 3 ∷ number 6 ∷ []) ∷ []) ∷ []) 1 false false ∷ pipe 1 0 3 0 port.Done port.Done (Some ((number 1 ∷ number 4 ∷ []) ∷ (number 2 ∷ number 5 ∷ []) ∷ (number 3 ∷ number 6 ∷ []) ∷ []) ∷ []) 1 false false ∷ pipe 2 0 3 1 port.Done port.Done (Some ((number 6 ∷ []) ∷ []) ∷ []) 1 false false ∷ pipe 3 0 4 0 port.Ready port.Ready (Some ((number 1 ∷ number 4 ∷ number 6 ∷ []) ∷ (number 2 ∷ number 5 ∷ number 6 ∷ []) ∷ (number 3 ∷ number 6 ∷ number 6 ∷ []) ∷ []) ∷ []) 1 true true ∷ pipe 4 0 5 0 port.Ready port.Ready (Some ((number 6 ∷ number 4 ∷ []) ∷ (number 6 ∷ number 5 ∷ []) ∷ (number 6 ∷ number 6 ∷ []) ∷ []) ∷ []) 1 true true ∷ [])
    []

abbrev pub w30 : World
w30 =
    at 30 3 true
    (the sum_shape 0 (record (no_progress 0) { sent = 1 }) false false ∷ the sum_shape 1 (no_progress 1) false false ∷ the sum_shape 2 (record (no_progress 1) { stage = spent; sent = 1; taken = (Some ((number 1 ∷ number 4 ∷ []) ∷ (number 2 ∷ number 5 ∷ []) ∷ (number 3 ∷ number 6 ∷ []) ∷ []) ∷ []) ∷ [] }) false false ∷ the sum_shape 3 (record (no_progress 2) { sent = 1; booked = 3; stores = (((number 1 ∷ number 4 ∷ []) ∷ (number 2 ∷ number 5 ∷ []) ∷ (number 3 ∷ number 6 ∷ []) ∷ []) ∷ []) ∷ (((number 6 ∷ []) ∷ []) ∷ []) ∷ [] }) true true ∷ the sum_shape 4 (no_progress 1) true true ∷ the sum_shape 5 (record (no_progress 1) { stores = (((number 6 ∷ number 4 ∷ []) ∷ (number 6 ∷ number 5 ∷ []) ∷ (number 6 ∷ number 6 ∷ []) ∷ []) ∷ []) ∷ [] }) true true ∷ [])
    (pipe 0 0 1 0 port.Done port.Done (Some ((number 1 ∷ number 4 ∷ []) ∷ (number 2 ∷ number 5 ∷ []) ∷ (number 3 ∷ number 6 ∷ []) ∷ []) ∷ []) 1 false false ∷ pipe 1 1 2 0 port.Done port.Done (Some ((number 1 ∷ number 4 ∷ []) ∷ (number 2 ∷ number 5 ∷ []) ∷ (number 3 ∷ number 6 ∷ []) ∷ []) ∷ []) 1 false false ∷ pipe 1 0 3 0 port.Done port.Done (Some ((number 1 ∷ number 4 ∷ []) ∷ (number 2 ∷ number 5 ∷ []) ∷ (number 3 ∷ number 6 ∷ []) ∷ []) ∷ []) 1 false false ∷ pipe 2 0 3 1 port.Done port.Done (Some ((number 6 ∷ []) ∷ []) ∷ []) 1 false false ∷ pipe 3 0 4 0 port.Ready port.Ready (Some ((number 1 ∷ number 4 ∷ number 6 ∷ []) ∷ (number 2 ∷ number 5 ∷ number 6 ∷ []) ∷ (number 3 ∷ number 6 ∷ number 6 ∷ []) ∷ []) ∷ []) 1 true true ∷ pipe 4 0 5 0 port.Ready port.Ready (Some ((number 6 ∷ number 4 ∷ []) ∷ (number 6 ∷ number 5 ∷ []) ∷ (number 6 ∷ number 6 ∷ []) ∷ []) ∷ []) 1 true true ∷ [])
    []

abbrev pub w31 : World
w31 =
    at 31 3 false
    (the sum_shape 0 (record (no_progress 0) { sent = 1 }) false false ∷ the sum_shape 1 (no_progress 1) false false ∷ the sum_shape 2 (record (no_progress 1) { stage = spent; sent = 1; taken = (Some ((number 1 ∷ number 4 ∷ []) ∷ (number 2 ∷ number 5 ∷ []) ∷ (number 3 ∷ number 6 ∷ []) ∷ []) ∷ []) ∷ [] }) false false ∷ the sum_shape 3 (record (no_progress 2) { sent = 1; booked = 3; stores = (((number 1 ∷ number 4 ∷ []) ∷ (number 2 ∷ number 5 ∷ []) ∷ (number 3 ∷ number 6 ∷ []) ∷ []) ∷ []) ∷ (((number 6 ∷ []) ∷ []) ∷ []) ∷ [] }) false false ∷ the sum_shape 4 (no_progress 1) false false ∷ the sum_shape 5 (record (no_progress 1) { stores = (((number 6 ∷ number 4 ∷ []) ∷ (number 6 ∷ number 5 ∷ []) ∷ (number 6 ∷ number 6 ∷ []) ∷ []) ∷ []) ∷ [] }) false false ∷ [])
    (pipe 0 0 1 0 port.Done port.Done (Some ((number 1 ∷ number 4 ∷ []) ∷ (number 2 ∷ number 5 ∷ []) ∷ (number 3 ∷ number 6 ∷ []) ∷ []) ∷ []) 1 false false ∷ pipe 1 1 2 0 port.Done port.Done (Some ((number 1 ∷ number 4 ∷ []) ∷ (number 2 ∷ number 5 ∷ []) ∷ (number 3 ∷ number 6 ∷ []) ∷ []) ∷ []) 1 false false ∷ pipe 1 0 3 0 port.Done port.Done (Some ((number 1 ∷ number 4 ∷ []) ∷ (number 2 ∷ number 5 ∷ []) ∷ (number 3 ∷ number 6 ∷ []) ∷ []) ∷ []) 1 false false ∷ pipe 2 0 3 1 port.Done port.Done (Some ((number 6 ∷ []) ∷ []) ∷ []) 1 false false ∷ pipe 3 0 4 0 port.Ready port.Ready (Some ((number 1 ∷ number 4 ∷ number 6 ∷ []) ∷ (number 2 ∷ number 5 ∷ number 6 ∷ []) ∷ (number 3 ∷ number 6 ∷ number 6 ∷ []) ∷ []) ∷ []) 1 false false ∷ pipe 4 0 5 0 port.Ready port.Ready (Some ((number 6 ∷ number 4 ∷ []) ∷ (number 6 ∷ number 5 ∷ []) ∷ (number 6 ∷ number 6 ∷ []) ∷ []) ∷ []) 1 false false ∷ [])
    []

abbrev pub s4 : World
s4 =
    at 31 3 false
    (the sum_shape 0 (record (no_progress 0) { sent = 1 }) false false ∷ the sum_shape 1 (no_progress 1) false false ∷ the sum_shape 2 (record (no_progress 1) { stage = spent; sent = 1; taken = (Some ((number 1 ∷ number 4 ∷ []) ∷ (number 2 ∷ number 5 ∷ []) ∷ (number 3 ∷ number 6 ∷ []) ∷ []) ∷ []) ∷ [] }) false false ∷ the sum_shape 3 (record (no_progress 2) { sent = 1; booked = 3; stores = (((number 1 ∷ number 4 ∷ []) ∷ (number 2 ∷ number 5 ∷ []) ∷ (number 3 ∷ number 6 ∷ []) ∷ []) ∷ []) ∷ (((number 6 ∷ []) ∷ []) ∷ []) ∷ [] }) false false ∷ the sum_shape 4 (no_progress 1) false false ∷ the sum_shape 5 (record (no_progress 1) { stores = (((number 6 ∷ number 4 ∷ []) ∷ (number 6 ∷ number 5 ∷ []) ∷ (number 6 ∷ number 6 ∷ []) ∷ []) ∷ []) ∷ [] }) false false ∷ [])
    (pipe 0 0 1 0 port.Done port.Done (Some ((number 1 ∷ number 4 ∷ []) ∷ (number 2 ∷ number 5 ∷ []) ∷ (number 3 ∷ number 6 ∷ []) ∷ []) ∷ []) 1 false false ∷ pipe 1 1 2 0 port.Done port.Done (Some ((number 1 ∷ number 4 ∷ []) ∷ (number 2 ∷ number 5 ∷ []) ∷ (number 3 ∷ number 6 ∷ []) ∷ []) ∷ []) 1 false false ∷ pipe 1 0 3 0 port.Done port.Done (Some ((number 1 ∷ number 4 ∷ []) ∷ (number 2 ∷ number 5 ∷ []) ∷ (number 3 ∷ number 6 ∷ []) ∷ []) ∷ []) 1 false false ∷ pipe 2 0 3 1 port.Done port.Done (Some ((number 6 ∷ []) ∷ []) ∷ []) 1 false false ∷ pipe 3 0 4 0 port.Done port.Done (Some ((number 1 ∷ number 4 ∷ number 6 ∷ []) ∷ (number 2 ∷ number 5 ∷ number 6 ∷ []) ∷ (number 3 ∷ number 6 ∷ number 6 ∷ []) ∷ []) ∷ []) 1 false false ∷ pipe 4 0 5 0 port.Done port.Done (Some ((number 6 ∷ number 4 ∷ []) ∷ (number 6 ∷ number 5 ∷ []) ∷ (number 6 ∷ number 6 ∷ []) ∷ []) ∷ []) 1 false false ∷ [])
    []

abbrev pub w32 : World
w32 =
    record (at 32 4 false
    (the sum_shape 0 (record (no_progress 0) { sent = 1 }) false false ∷ the sum_shape 1 (no_progress 1) false false ∷ the sum_shape 2 (record (no_progress 1) { stage = spent; sent = 1; taken = (Some ((number 1 ∷ number 4 ∷ []) ∷ (number 2 ∷ number 5 ∷ []) ∷ (number 3 ∷ number 6 ∷ []) ∷ []) ∷ []) ∷ [] }) false false ∷ the sum_shape 3 (record (no_progress 2) { sent = 1; booked = 3; stores = (((number 1 ∷ number 4 ∷ []) ∷ (number 2 ∷ number 5 ∷ []) ∷ (number 3 ∷ number 6 ∷ []) ∷ []) ∷ []) ∷ (((number 6 ∷ []) ∷ []) ∷ []) ∷ [] }) false false ∷ the sum_shape 4 (no_progress 1) false false ∷ the sum_shape 5 (record (no_progress 1) { stores = (((number 6 ∷ number 4 ∷ []) ∷ (number 6 ∷ number 5 ∷ []) ∷ (number 6 ∷ number 6 ∷ []) ∷ []) ∷ []) ∷ [] }) false false ∷ [])
    (pipe 0 0 1 0 port.Done port.Done (Some ((number 1 ∷ number 4 ∷ []) ∷ (number 2 ∷ number 5 ∷ []) ∷ (number 3 ∷ number 6 ∷ []) ∷ []) ∷ []) 1 false false ∷ pipe 1 1 2 0 port.Done port.Done (Some ((number 1 ∷ number 4 ∷ []) ∷ (number 2 ∷ number 5 ∷ []) ∷ (number 3 ∷ number 6 ∷ []) ∷ []) ∷ []) 1 false false ∷ pipe 1 0 3 0 port.Done port.Done (Some ((number 1 ∷ number 4 ∷ []) ∷ (number 2 ∷ number 5 ∷ []) ∷ (number 3 ∷ number 6 ∷ []) ∷ []) ∷ []) 1 false false ∷ pipe 2 0 3 1 port.Done port.Done (Some ((number 6 ∷ []) ∷ []) ∷ []) 1 false false ∷ pipe 3 0 4 0 port.Done port.Done (Some ((number 1 ∷ number 4 ∷ number 6 ∷ []) ∷ (number 2 ∷ number 5 ∷ number 6 ∷ []) ∷ (number 3 ∷ number 6 ∷ number 6 ∷ []) ∷ []) ∷ []) 1 false false ∷ pipe 4 0 5 0 port.Done port.Done (Some ((number 6 ∷ number 4 ∷ []) ∷ (number 6 ∷ number 5 ∷ []) ∷ (number 6 ∷ number 6 ∷ []) ∷ []) ∷ []) 1 false false ∷ [])
    []) { ending = finished }

updates_1 : (F : Functions) → Updates F w0 s1
updates_1 F = same F 5 (refl, refl, inl (refl, refl)) (same F 4 (refl, refl, inl (refl, refl)) (same F 2 (refl, refl, inl (refl, refl)) (same F 1 (refl, refl, inl (refl, refl)) (same F 0 (refl, refl, inl (refl, refl)) (same F 1 (refl, refl, inl (refl, refl)) (no_update))))))

settled_1 : IsSettled s1
settled_1 = settled_by s1 (record { stage = refl; states = refl; agrees = refl; filled = refl }, (record { stage = refl; states = refl; agrees = refl; filled = refl }, (record { stage = refl; states = refl; agrees = refl; filled = refl }, (record { stage = refl; states = refl; agrees = refl; filled = refl }, (record { stage = refl; states = refl; agrees = refl; filled = refl }, (record { stage = refl; states = refl; agrees = refl; filled = refl }, tt))))))

step_1 : (F : Functions) → Steps F w0 (opened 1) w1
step_1 F = (refl, refl, refl, (s1, updates_1 F, settles settled_1 refl))

step_2 : (F : Functions) → Steps F w1 (claimed 0 0 0 0) w2
step_2 F = (node_of w1 0, (refl, refl, refl), (omega arith, tt), refl, (refl, tt), (get_claim (claim_at w1 0 0 (node_of w1 0)), refl, refl, refl))

step_3 : (F : Functions) → Steps F w2 (handed_in 0 0 0 0 (rows 3)) w3
step_3 F = (piece 0 0 0 0 0 (hands_on) (ab_schema ∷ []) (((number 1 ∷ number 4 ∷ []) ∷ (number 2 ∷ number 5 ∷ []) ∷ (number 3 ∷ number 6 ∷ []) ∷ []) ∷ []), (0, omega arith, refl), refl, refl, refl, refl, refl, (good ((number 1 ∷ number 4 ∷ []) ∷ (number 2 ∷ number 5 ∷ []) ∷ (number 3 ∷ number 6 ∷ []) ∷ []), refl, refl, refl))

step_4 : (F : Functions) → Steps F w3 (pulled 1 0 0) w4
step_4 F = (node_of w3 1, (refl, refl, refl), refl, refl, (pipe 0 0 1 0 port.Ready port.Ready (Some ((number 1 ∷ number 4 ∷ []) ∷ (number 2 ∷ number 5 ∷ []) ∷ (number 3 ∷ number 6 ∷ []) ∷ []) ∷ []) 0 true false, ((number 1 ∷ number 4 ∷ []) ∷ (number 2 ∷ number 5 ∷ []) ∷ (number 3 ∷ number 6 ∷ []) ∷ []), (0, omega arith, refl), refl, refl, refl, refl, refl, refl))

step_5 : (F : Functions) → Steps F w4 (claimed 2 0 0 0) w5
step_5 F = (node_of w4 2, (refl, refl, refl), (omega arith, tt), refl, tt, (get_claim (claim_at w4 2 0 (node_of w4 2)), refl, refl, refl))

step_6 : (F : Functions) → Steps F w5 (handed_in 2 0 0 0 (rows 1)) w6
unfolding int_wrap
step_6 F = (piece 2 0 0 0 0 (keeps (at_place sum_shape 2)) (ab_schema ∷ []) (((number 1 ∷ number 4 ∷ []) ∷ (number 2 ∷ number 5 ∷ []) ∷ (number 3 ∷ number 6 ∷ []) ∷ []) ∷ []), (0, omega arith, refl), refl, refl, refl, refl, refl, (partial 1, (((number 6 ∷ []) ∷ []), ((record { schema = sum_schema; rows = ((number 6 ∷ []) ∷ []); broken = [] }), ((record { schema = sum_schema; rows = ((number 6 ∷ []) ∷ []); broken = [] }), inl refl, refl), refl, refl, omega arith), refl), refl, refl))

step_7 : (F : Functions) → Steps F w6 (closed 0) w7
step_7 F = (node_of w6 0, (refl, refl, refl), refl, inl (refl, λ i. both_none (nat_eq i 0)), refl)

step_8 : (F : Functions) → Steps F w7 (closed 1) w8
step_8 F = (node_of w7 1, (refl, refl, refl), refl, inl (refl, λ i. refl), refl)

step_9 : (F : Functions) → Steps F w8 (closed 2) w9
step_9 F = (node_of w8 2, (refl, refl, refl), refl, inl (refl, λ i. ap (λ next. claim_of one_worker (node_of w8 2).node (schemas_for w8 (node_of w8 2)) (node_of w8 2).progress [] (inputs_done w8 2) i next) (no_next w8 2 i refl)), refl)

step_10 : (F : Functions) → Steps F w9 (ended 1) w10
step_10 F = (refl, refl, refl, ((λ h. refl), ((λ h. refl), ((λ h. refl), ((λ h. absurd (let no : false ≡ true = h in cc)), ((λ h. absurd (let no : false ≡ true = h in cc)), ((λ h. absurd (let no : false ≡ true = h in cc)), tt)))))), refl)

updates_2 : (F : Functions) → Updates F w10 s2
updates_2 F = same F 0 (refl, refl, inl (refl, refl)) (same F 1 (refl, refl, inl (refl, refl)) (turned F 2 (record (no_progress 1) { stage = giving; taken = (Some ((number 1 ∷ number 4 ∷ []) ∷ (number 2 ∷ number 5 ∷ []) ∷ (number 3 ∷ number 6 ∷ []) ∷ []) ∷ []) ∷ [] }) (refl, refl, inr (refl, record (no_progress 1) { taken = (Some ((number 1 ∷ number 4 ∷ []) ∷ (number 2 ∷ number 5 ∷ []) ∷ (number 3 ∷ number 6 ∷ []) ∷ []) ∷ []) ∷ [] }, refl, refl)) (same F 3 (refl, refl, inl (refl, refl)) (same F 4 (refl, refl, inl (refl, refl)) (no_update)))))

settled_2 : IsSettled s2
settled_2 = settled_by s2 (record { stage = refl; states = refl; agrees = refl; filled = refl }, (record { stage = refl; states = refl; agrees = refl; filled = refl }, (record { stage = refl; states = refl; agrees = refl; filled = refl }, (record { stage = refl; states = refl; agrees = refl; filled = refl }, (record { stage = refl; states = refl; agrees = refl; filled = refl }, (record { stage = refl; states = refl; agrees = refl; filled = refl }, tt))))))

step_11 : (F : Functions) → Steps F w10 (opened 2) w11
step_11 F = (refl, refl, refl, (s2, updates_2 F, settles settled_2 refl))

step_12 : (F : Functions) → Steps F w11 (claimed 2 0 0 0) w12
step_12 F = (node_of w11 2, (refl, refl, refl), (omega arith, tt), refl, (refl, tt), (get_claim (claim_at w11 2 0 (node_of w11 2)), refl, refl, refl))

step_13 : (F : Functions) → Steps F w12 (handed_in 2 0 0 0 (rows 1)) w13
unfolding int_wrap
step_13 F = (piece 2 0 0 0 0 (computes (at_place sum_shape 2)) (ab_schema ∷ []) (((number 1 ∷ number 4 ∷ []) ∷ (number 2 ∷ number 5 ∷ []) ∷ (number 3 ∷ number 6 ∷ []) ∷ []) ∷ []), (0, omega arith, refl), refl, refl, refl, refl, refl, (good ((number 6 ∷ []) ∷ []), ((record { schema = sum_schema; rows = ((number 6 ∷ []) ∷ []); broken = [] }), ((record { schema = sum_schema; rows = ((number 6 ∷ []) ∷ []); broken = [] }), inl refl, refl), refl, refl, omega arith), refl, refl))

step_14 : (F : Functions) → Steps F w13 (pulled 3 0 0) w14
step_14 F = (node_of w13 3, (refl, refl, refl), refl, refl, (pipe 1 0 3 0 port.Ready port.Ready (Some ((number 1 ∷ number 4 ∷ []) ∷ (number 2 ∷ number 5 ∷ []) ∷ (number 3 ∷ number 6 ∷ []) ∷ []) ∷ []) 0 true false, ((number 1 ∷ number 4 ∷ []) ∷ (number 2 ∷ number 5 ∷ []) ∷ (number 3 ∷ number 6 ∷ []) ∷ []), (2, omega arith, refl), refl, refl, refl, refl, refl, refl))

step_15 : (F : Functions) → Steps F w14 (pulled 3 1 0) w15
step_15 F = (node_of w14 3, (refl, refl, refl), refl, refl, (pipe 2 0 3 1 port.Ready port.Ready (Some ((number 6 ∷ []) ∷ []) ∷ []) 0 true false, ((number 6 ∷ []) ∷ []), (3, omega arith, refl), refl, refl, refl, refl, refl, refl))

step_16 : (F : Functions) → Steps F w15 (closed 2) w16
step_16 F = (node_of w15 2, (refl, refl, refl), refl, inl (refl, λ i. both_none (nat_eq i 0)), refl)

step_17 : (F : Functions) → Steps F w16 (closed 1) w17
step_17 F = (node_of w16 1, (refl, refl, refl), refl, inl (refl, λ i. refl), refl)

step_18 : (F : Functions) → Steps F w17 (closed 3) w18
step_18 F = (node_of w17 3, (refl, refl, refl), refl, inl (refl, λ i. both_none (nat_eq i 0)), refl)

step_19 : (F : Functions) → Steps F w18 (closed 4) w19
step_19 F = (node_of w18 4, (refl, refl, refl), refl, inl (refl, λ i. ap (λ next. claim_of one_worker (node_of w18 4).node (schemas_for w18 (node_of w18 4)) (node_of w18 4).progress [] (inputs_done w18 4) i next) (no_next w18 4 i refl)), refl)

step_20 : (F : Functions) → Steps F w19 (closed 5) w20
step_20 F = (node_of w19 5, (refl, refl, refl), refl, inl (refl, λ i. refl), refl)

step_21 : (F : Functions) → Steps F w20 (ended 2) w21
step_21 F = (refl, refl, refl, ((λ h. absurd (let no : false ≡ true = h in cc)), ((λ h. refl), ((λ h. refl), ((λ h. refl), ((λ h. refl), ((λ h. refl), tt)))))), refl)

updates_3 : (F : Functions) → Updates F w21 s3
updates_3 F = turned F 2 (record (no_progress 1) { stage = spent; sent = 1; taken = (Some ((number 1 ∷ number 4 ∷ []) ∷ (number 2 ∷ number 5 ∷ []) ∷ (number 3 ∷ number 6 ∷ []) ∷ []) ∷ []) ∷ [] }) (refl, refl, inl (refl, refl)) (same F 1 (refl, refl, inl (refl, refl)) (same F 3 (refl, refl, inl (refl, refl)) (no_update)))

settled_3 : IsSettled s3
settled_3 = settled_by s3 (record { stage = refl; states = refl; agrees = refl; filled = refl }, (record { stage = refl; states = refl; agrees = refl; filled = refl }, (record { stage = refl; states = refl; agrees = refl; filled = refl }, (record { stage = refl; states = refl; agrees = refl; filled = refl }, (record { stage = refl; states = refl; agrees = refl; filled = refl }, (record { stage = refl; states = refl; agrees = refl; filled = refl }, tt))))))

step_22 : (F : Functions) → Steps F w21 (opened 3) w22
step_22 F = (refl, refl, refl, (s3, updates_3 F, settles settled_3 refl))

step_23 : (F : Functions) → Steps F w22 (claimed 3 0 0 0) w23
step_23 F = (node_of w22 3, (refl, refl, refl), (omega arith, tt), refl, (refl, tt), (get_claim (claim_at w22 3 0 (node_of w22 3)), refl, refl, refl))

step_24 : (F : Functions) → Steps F w23 (handed_in 3 0 0 0 (rows 3)) w24
step_24 F = (piece 3 0 0 0 0 (computes (at_place sum_shape 3)) (ab_schema ∷ sum_schema ∷ []) (((number 1 ∷ number 4 ∷ []) ∷ (number 2 ∷ number 5 ∷ []) ∷ (number 3 ∷ number 6 ∷ []) ∷ []) ∷ ((number 6 ∷ []) ∷ []) ∷ []), (0, omega arith, refl), refl, refl, refl, refl, refl, (good ((number 1 ∷ number 4 ∷ number 6 ∷ []) ∷ (number 2 ∷ number 5 ∷ number 6 ∷ []) ∷ (number 3 ∷ number 6 ∷ number 6 ∷ []) ∷ []), ((record { schema = (ab_schema ++ sum_schema); rows = ((number 1 ∷ number 4 ∷ number 6 ∷ []) ∷ (number 2 ∷ number 5 ∷ number 6 ∷ []) ∷ (number 3 ∷ number 6 ∷ number 6 ∷ []) ∷ []); broken = [] }), ((record { schema = (ab_schema ++ sum_schema); rows = ((number 1 ∷ number 4 ∷ number 6 ∷ []) ∷ (number 2 ∷ number 5 ∷ number 6 ∷ []) ∷ (number 3 ∷ number 6 ∷ number 6 ∷ []) ∷ []); broken = [] }), inl refl, refl), refl, refl, omega arith), refl, refl))

step_25 : (F : Functions) → Steps F w24 (claimed 4 0 0 0) w25
step_25 F = (node_of w24 4, (refl, refl, refl), (omega arith, tt), refl, (refl, tt), (get_claim (claim_at w24 4 0 (node_of w24 4)), refl, refl, refl))

step_26 : (F : Functions) → Steps F w25 (handed_in 4 0 0 0 (rows 3)) w26
step_26 F = (piece 4 0 0 0 0 (computes (at_place sum_shape 4)) ((ab_schema ++ sum_schema) ∷ []) (((number 1 ∷ number 4 ∷ number 6 ∷ []) ∷ (number 2 ∷ number 5 ∷ number 6 ∷ []) ∷ (number 3 ∷ number 6 ∷ number 6 ∷ []) ∷ []) ∷ []), (0, omega arith, refl), refl, refl, refl, refl, refl, (good ((number 6 ∷ number 4 ∷ []) ∷ (number 6 ∷ number 5 ∷ []) ∷ (number 6 ∷ number 6 ∷ []) ∷ []), ((record { schema = s_schema; rows = ((number 6 ∷ number 4 ∷ []) ∷ (number 6 ∷ number 5 ∷ []) ∷ (number 6 ∷ number 6 ∷ []) ∷ []); broken = [] }), ((record { schema = s_schema; rows = ((number 6 ∷ number 4 ∷ []) ∷ (number 6 ∷ number 5 ∷ []) ∷ (number 6 ∷ number 6 ∷ []) ∷ []); broken = [] }), inl refl, refl), refl, refl, omega arith), refl, refl))

step_27 : (F : Functions) → Steps F w26 (pulled 5 0 0) w27
step_27 F = (node_of w26 5, (refl, refl, refl), refl, refl, (pipe 4 0 5 0 port.Ready port.Ready (Some ((number 6 ∷ number 4 ∷ []) ∷ (number 6 ∷ number 5 ∷ []) ∷ (number 6 ∷ number 6 ∷ []) ∷ []) ∷ []) 0 true false, ((number 6 ∷ number 4 ∷ []) ∷ (number 6 ∷ number 5 ∷ []) ∷ (number 6 ∷ number 6 ∷ []) ∷ []), (5, omega arith, refl), refl, refl, refl, refl, refl, refl))

step_28 : (F : Functions) → Steps F w27 (closed 3) w28
step_28 F = (node_of w27 3, (refl, refl, refl), refl, inl (refl, λ i. both_none (nat_eq i 0)), refl)

step_29 : (F : Functions) → Steps F w28 (closed 4) w29
step_29 F = (node_of w28 4, (refl, refl, refl), refl, inl (refl, λ i. ap (λ next. claim_of one_worker (node_of w28 4).node (schemas_for w28 (node_of w28 4)) (node_of w28 4).progress [] (inputs_done w28 4) i next) (no_next w28 4 i refl)), refl)

step_30 : (F : Functions) → Steps F w29 (closed 5) w30
step_30 F = (node_of w29 5, (refl, refl, refl), refl, inl (refl, λ i. refl), refl)

step_31 : (F : Functions) → Steps F w30 (ended 3) w31
step_31 F = (refl, refl, refl, ((λ h. absurd (let no : false ≡ true = h in cc)), ((λ h. absurd (let no : false ≡ true = h in cc)), ((λ h. absurd (let no : false ≡ true = h in cc)), ((λ h. refl), ((λ h. refl), ((λ h. refl), tt)))))), refl)

updates_4 : (F : Functions) → Updates F w31 s4
updates_4 F = same F 3 (refl, refl, inl (refl, refl)) (same F 4 (refl, refl, inl (refl, refl)) (same F 5 (refl, refl, inl (refl, refl)) (no_update)))

settled_4 : IsSettled s4
settled_4 = settled_by s4 (record { stage = refl; states = refl; agrees = refl; filled = refl }, (record { stage = refl; states = refl; agrees = refl; filled = refl }, (record { stage = refl; states = refl; agrees = refl; filled = refl }, (record { stage = refl; states = refl; agrees = refl; filled = refl }, (record { stage = refl; states = refl; agrees = refl; filled = refl }, (record { stage = refl; states = refl; agrees = refl; filled = refl }, tt))))))

step_32 : (F : Functions) → Steps F w31 (opened 4) w32
step_32 F = (refl, refl, refl, (s4, updates_4 F, settles settled_4 refl))

pub run : (F : Functions) → Replays F w0 sum_journal w32
run F = (w1, step_1 F, (w2, step_2 F, (w3, step_3 F, (w4, step_4 F, (w5, step_5 F, (w6, step_6 F, (w7, step_7 F, (w8, step_8 F, (w9, step_9 F, (w10, step_10 F, (w11, step_11 F, (w12, step_12 F, (w13, step_13 F, (w14, step_14 F, (w15, step_15 F, (w16, step_16 F, (w17, step_17 F, (w18, step_18 F, (w19, step_19 F, (w20, step_20 F, (w21, step_21 F, (w22, step_22 F, (w23, step_23 F, (w24, step_24 F, (w25, step_25 F, (w26, step_26 F, (w27, step_27 F, (w28, step_28 F, (w29, step_29 F, (w30, step_30 F, (w31, step_31 F, (w32, step_32 F, refl))))))))))))))))))))))))))))))))

pub leaves : (F : Functions) → Leaves F sum_shape one_worker sum_journal ([] ∷ ([] ∷ []) ∷ ([] ∷ []) ∷ ((((number 1 ∷ number 4 ∷ []) ∷ (number 2 ∷ number 5 ∷ []) ∷ (number 3 ∷ number 6 ∷ []) ∷ []) ∷ []) ∷ (((number 6 ∷ []) ∷ []) ∷ []) ∷ []) ∷ ([] ∷ []) ∷ ((((number 6 ∷ number 4 ∷ []) ∷ (number 6 ∷ number 5 ∷ []) ∷ (number 6 ∷ number 6 ∷ []) ∷ []) ∷ []) ∷ []) ∷ [])
leaves F = (w32, run F, refl)
