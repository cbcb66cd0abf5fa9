-- The worlds of that run, written out, and its steps.
use Rattle.std.proofs.Common.{◌≡◌, ℕ, zero, suc, Bool, true, false, List, [], ◌∷◌, Some, None, refl, ap, inl, inr, arith}
use Rattle.std.specs.Prelude.{nat_eq, take}
use Rattle.ps_frame.specs.Functions.{Functions}
use Rattle.ps_frame.specs.declared.value.Value.TheVariants as val
use Rattle.ps_meaning.specs.declared.options.JoinType.TheVariants as how
use Rattle.ps_ports.specs.declared.port_state.PortState.TheVariants as port
use Rattle.ps_turns.specs.Claims.{claim_of}
use Rattle.ps_turns.specs.Progress.{giving, spent}
use Rattle.ps_turns.specs.Tasks.{Piece, gives_last, good, hands_on, keeps, partial, probes, rows}
use Rattle.ps_world.specs.Claims.{claim_at}
use Rattle.ps_world.specs.Opening.{no_progress, opening}
use Rattle.ps_world.specs.Step.{Replays, Steps, settles}
use Rattle.ps_world.specs.Updates.{IsSettled, Updates, no_update}
use Rattle.ps_world.specs.World.{Node, Pipe, World, claimed, closed, ended, finished, handed_in, inputs_done, opened, pulled, running, schemas_for}
use Rattle.world_runs.proofs.Writing.{at_place, both_none, get_claim, no_next, piece, pipe, same, settled_by, the, turned}
use Rattle.world_runs.specs.Examples.{Leaves, number, options}
use Rattle.world_runs.specs.Joins.{left_fields, on_k, right_fields, text}
use Rattle.world_runs.specs.Nodes.{node_of}
use Rattle.world_runs.specs.FullRun.{full_journal, two_singly, full_shape}

-- the world after so many records
abbrev at : (records phase : ℕ) → Bool → List Node → List Pipe → List Piece → World
at k phase is_open nodes pipes outs = record { options = two_singly; nodes = nodes; pipes = pipes; outs = outs; phase = phase; is_open = is_open; journal = take k full_journal; ending = running }

abbrev pub w0 : World
w0 = opening full_shape two_singly

abbrev pub s1 : World
s1 =
    at 0 0 false
    (the full_shape 0 (no_progress 0) false false ∷ the full_shape 1 (no_progress 0) false false ∷ the full_shape 2 (no_progress 2) false false ∷ the full_shape 3 (no_progress 1) false false ∷ [])
    (pipe 0 0 2 0 port.Ready port.Blocked [] 0 false false ∷ pipe 1 0 2 1 port.Ready port.Ready [] 0 false false ∷ pipe 2 0 3 0 port.Blocked port.Ready [] 0 false false ∷ [])
    []

abbrev pub w1 : World
w1 =
    at 1 1 true
    (the full_shape 0 (no_progress 0) false false ∷ the full_shape 1 (no_progress 0) true false ∷ the full_shape 2 (no_progress 2) true false ∷ the full_shape 3 (no_progress 1) false false ∷ [])
    (pipe 0 0 2 0 port.Ready port.Blocked [] 0 false false ∷ pipe 1 0 2 1 port.Ready port.Ready [] 0 true false ∷ pipe 2 0 3 0 port.Blocked port.Ready [] 0 false false ∷ [])
    []

abbrev pub w2 : World
w2 =
    at 2 1 true
    (the full_shape 0 (no_progress 0) false false ∷ the full_shape 1 (record (no_progress 0) { sent = 1 }) true false ∷ the full_shape 2 (no_progress 2) true false ∷ the full_shape 3 (no_progress 1) false false ∷ [])
    (pipe 0 0 2 0 port.Ready port.Blocked [] 0 false false ∷ pipe 1 0 2 1 port.Ready port.Ready (None ∷ []) 0 true false ∷ pipe 2 0 3 0 port.Blocked port.Ready [] 0 false false ∷ [])
    (piece 1 0 0 0 0 (hands_on) (right_fields ∷ []) (((number 4 ∷ text 120 ∷ []) ∷ []) ∷ []) ∷ [])

abbrev pub w3 : World
w3 =
    at 3 1 true
    (the full_shape 0 (no_progress 0) false false ∷ the full_shape 1 (record (no_progress 0) { sent = 2 }) true false ∷ the full_shape 2 (no_progress 2) true false ∷ the full_shape 3 (no_progress 1) false false ∷ [])
    (pipe 0 0 2 0 port.Ready port.Blocked [] 0 false false ∷ pipe 1 0 2 1 port.Ready port.Ready (None ∷ None ∷ []) 0 true false ∷ pipe 2 0 3 0 port.Blocked port.Ready [] 0 false false ∷ [])
    (piece 1 0 1 1 1 (hands_on) (right_fields ∷ []) (((number 1 ∷ text 121 ∷ []) ∷ []) ∷ []) ∷ piece 1 0 0 0 0 (hands_on) (right_fields ∷ []) (((number 4 ∷ text 120 ∷ []) ∷ []) ∷ []) ∷ [])

abbrev pub w4 : World
w4 =
    at 4 1 true
    (the full_shape 0 (no_progress 0) false false ∷ the full_shape 1 (record (no_progress 0) { sent = 2 }) true false ∷ the full_shape 2 (no_progress 2) true false ∷ the full_shape 3 (no_progress 1) false false ∷ [])
    (pipe 0 0 2 0 port.Ready port.Blocked [] 0 false false ∷ pipe 1 0 2 1 port.Ready port.Ready (None ∷ Some ((number 1 ∷ text 121 ∷ []) ∷ []) ∷ []) 0 true false ∷ pipe 2 0 3 0 port.Blocked port.Ready [] 0 false false ∷ [])
    (piece 1 0 0 0 0 (hands_on) (right_fields ∷ []) (((number 4 ∷ text 120 ∷ []) ∷ []) ∷ []) ∷ [])

abbrev pub w5 : World
w5 =
    at 5 1 true
    (the full_shape 0 (no_progress 0) false false ∷ the full_shape 1 (record (no_progress 0) { sent = 2 }) true false ∷ the full_shape 2 (no_progress 2) true false ∷ the full_shape 3 (no_progress 1) false false ∷ [])
    (pipe 0 0 2 0 port.Ready port.Blocked [] 0 false false ∷ pipe 1 0 2 1 port.Ready port.Ready (Some ((number 4 ∷ text 120 ∷ []) ∷ []) ∷ Some ((number 1 ∷ text 121 ∷ []) ∷ []) ∷ []) 0 true false ∷ pipe 2 0 3 0 port.Blocked port.Ready [] 0 false false ∷ [])
    []

abbrev pub w6 : World
w6 =
    at 6 1 true
    (the full_shape 0 (no_progress 0) false false ∷ the full_shape 1 (record (no_progress 0) { sent = 2 }) true false ∷ the full_shape 2 (record (no_progress 2) { taken = [] ∷ (None ∷ []) ∷ [] }) true false ∷ the full_shape 3 (no_progress 1) false false ∷ [])
    (pipe 0 0 2 0 port.Ready port.Blocked [] 0 false false ∷ pipe 1 0 2 1 port.Ready port.Ready (Some ((number 4 ∷ text 120 ∷ []) ∷ []) ∷ Some ((number 1 ∷ text 121 ∷ []) ∷ []) ∷ []) 1 true false ∷ pipe 2 0 3 0 port.Blocked port.Ready [] 0 false false ∷ [])
    (piece 2 1 0 0 0 (keeps (at_place full_shape 2)) (right_fields ∷ []) (((number 4 ∷ text 120 ∷ []) ∷ []) ∷ []) ∷ [])

abbrev pub w7 : World
w7 =
    at 7 1 true
    (the full_shape 0 (no_progress 0) false false ∷ the full_shape 1 (record (no_progress 0) { sent = 2 }) true false ∷ the full_shape 2 (record (no_progress 2) { taken = [] ∷ (None ∷ None ∷ []) ∷ [] }) true false ∷ the full_shape 3 (no_progress 1) false false ∷ [])
    (pipe 0 0 2 0 port.Ready port.Blocked [] 0 false false ∷ pipe 1 0 2 1 port.Ready port.Ready (Some ((number 4 ∷ text 120 ∷ []) ∷ []) ∷ Some ((number 1 ∷ text 121 ∷ []) ∷ []) ∷ []) 2 true false ∷ pipe 2 0 3 0 port.Blocked port.Ready [] 0 false false ∷ [])
    (piece 2 1 1 1 1 (keeps (at_place full_shape 2)) (right_fields ∷ []) (((number 1 ∷ text 121 ∷ []) ∷ []) ∷ []) ∷ piece 2 1 0 0 0 (keeps (at_place full_shape 2)) (right_fields ∷ []) (((number 4 ∷ text 120 ∷ []) ∷ []) ∷ []) ∷ [])

abbrev pub w8 : World
w8 =
    at 8 1 true
    (the full_shape 0 (no_progress 0) false false ∷ the full_shape 1 (record (no_progress 0) { sent = 2 }) true false ∷ the full_shape 2 (record (no_progress 2) { taken = [] ∷ (None ∷ Some ((number 1 ∷ text 121 ∷ []) ∷ []) ∷ []) ∷ [] }) true false ∷ the full_shape 3 (no_progress 1) false false ∷ [])
    (pipe 0 0 2 0 port.Ready port.Blocked [] 0 false false ∷ pipe 1 0 2 1 port.Ready port.Ready (Some ((number 4 ∷ text 120 ∷ []) ∷ []) ∷ Some ((number 1 ∷ text 121 ∷ []) ∷ []) ∷ []) 2 true false ∷ pipe 2 0 3 0 port.Blocked port.Ready [] 0 false false ∷ [])
    (piece 2 1 0 0 0 (keeps (at_place full_shape 2)) (right_fields ∷ []) (((number 4 ∷ text 120 ∷ []) ∷ []) ∷ []) ∷ [])

abbrev pub w9 : World
w9 =
    at 9 1 true
    (the full_shape 0 (no_progress 0) false false ∷ the full_shape 1 (record (no_progress 0) { sent = 2 }) true false ∷ the full_shape 2 (record (no_progress 2) { taken = [] ∷ (Some ((number 4 ∷ text 120 ∷ []) ∷ []) ∷ Some ((number 1 ∷ text 121 ∷ []) ∷ []) ∷ []) ∷ [] }) true false ∷ the full_shape 3 (no_progress 1) false false ∷ [])
    (pipe 0 0 2 0 port.Ready port.Blocked [] 0 false false ∷ pipe 1 0 2 1 port.Ready port.Ready (Some ((number 4 ∷ text 120 ∷ []) ∷ []) ∷ Some ((number 1 ∷ text 121 ∷ []) ∷ []) ∷ []) 2 true false ∷ pipe 2 0 3 0 port.Blocked port.Ready [] 0 false false ∷ [])
    []

abbrev pub w10 : World
w10 =
    at 10 1 true
    (the full_shape 0 (no_progress 0) false false ∷ the full_shape 1 (record (no_progress 0) { sent = 2 }) true true ∷ the full_shape 2 (record (no_progress 2) { taken = [] ∷ (Some ((number 4 ∷ text 120 ∷ []) ∷ []) ∷ Some ((number 1 ∷ text 121 ∷ []) ∷ []) ∷ []) ∷ [] }) true false ∷ the full_shape 3 (no_progress 1) false false ∷ [])
    (pipe 0 0 2 0 port.Ready port.Blocked [] 0 false false ∷ pipe 1 0 2 1 port.Ready port.Ready (Some ((number 4 ∷ text 120 ∷ []) ∷ []) ∷ Some ((number 1 ∷ text 121 ∷ []) ∷ []) ∷ []) 2 true true ∷ pipe 2 0 3 0 port.Blocked port.Ready [] 0 false false ∷ [])
    []

abbrev pub w11 : World
w11 =
    at 11 1 true
    (the full_shape 0 (no_progress 0) false false ∷ the full_shape 1 (record (no_progress 0) { sent = 2 }) true true ∷ the full_shape 2 (record (no_progress 2) { taken = [] ∷ (Some ((number 4 ∷ text 120 ∷ []) ∷ []) ∷ Some ((number 1 ∷ text 121 ∷ []) ∷ []) ∷ []) ∷ [] }) true true ∷ the full_shape 3 (no_progress 1) false false ∷ [])
    (pipe 0 0 2 0 port.Ready port.Blocked [] 0 false false ∷ pipe 1 0 2 1 port.Ready port.Ready (Some ((number 4 ∷ text 120 ∷ []) ∷ []) ∷ Some ((number 1 ∷ text 121 ∷ []) ∷ []) ∷ []) 2 true true ∷ pipe 2 0 3 0 port.Blocked port.Ready [] 0 false false ∷ [])
    []

abbrev pub w12 : World
w12 =
    at 12 1 false
    (the full_shape 0 (no_progress 0) false false ∷ the full_shape 1 (record (no_progress 0) { sent = 2 }) false false ∷ the full_shape 2 (record (no_progress 2) { taken = [] ∷ (Some ((number 4 ∷ text 120 ∷ []) ∷ []) ∷ Some ((number 1 ∷ text 121 ∷ []) ∷ []) ∷ []) ∷ [] }) false false ∷ the full_shape 3 (no_progress 1) false false ∷ [])
    (pipe 0 0 2 0 port.Ready port.Blocked [] 0 false false ∷ pipe 1 0 2 1 port.Ready port.Ready (Some ((number 4 ∷ text 120 ∷ []) ∷ []) ∷ Some ((number 1 ∷ text 121 ∷ []) ∷ []) ∷ []) 2 false false ∷ pipe 2 0 3 0 port.Blocked port.Ready [] 0 false false ∷ [])
    []

abbrev pub s2 : World
s2 =
    at 12 1 false
    (the full_shape 0 (no_progress 0) false false ∷ the full_shape 1 (record (no_progress 0) { sent = 2 }) false false ∷ the full_shape 2 (record (no_progress 2) { stage = giving; taken = [] ∷ (Some ((number 4 ∷ text 120 ∷ []) ∷ []) ∷ Some ((number 1 ∷ text 121 ∷ []) ∷ []) ∷ []) ∷ [] }) false false ∷ the full_shape 3 (no_progress 1) false false ∷ [])
    (pipe 0 0 2 0 port.Ready port.Ready [] 0 false false ∷ pipe 1 0 2 1 port.Done port.Done (Some ((number 4 ∷ text 120 ∷ []) ∷ []) ∷ Some ((number 1 ∷ text 121 ∷ []) ∷ []) ∷ []) 2 false false ∷ pipe 2 0 3 0 port.Ready port.Ready [] 0 false false ∷ [])
    []

abbrev pub w13 : World
w13 =
    at 13 2 true
    (the full_shape 0 (no_progress 0) true false ∷ the full_shape 1 (record (no_progress 0) { sent = 2 }) false false ∷ the full_shape 2 (record (no_progress 2) { stage = giving; taken = [] ∷ (Some ((number 4 ∷ text 120 ∷ []) ∷ []) ∷ Some ((number 1 ∷ text 121 ∷ []) ∷ []) ∷ []) ∷ [] }) true false ∷ the full_shape 3 (no_progress 1) true false ∷ [])
    (pipe 0 0 2 0 port.Ready port.Ready [] 0 true false ∷ pipe 1 0 2 1 port.Done port.Done (Some ((number 4 ∷ text 120 ∷ []) ∷ []) ∷ Some ((number 1 ∷ text 121 ∷ []) ∷ []) ∷ []) 2 false false ∷ pipe 2 0 3 0 port.Ready port.Ready [] 0 true false ∷ [])
    []

abbrev pub w14 : World
w14 =
    at 14 2 true
    (the full_shape 0 (record (no_progress 0) { sent = 1 }) true false ∷ the full_shape 1 (record (no_progress 0) { sent = 2 }) false false ∷ the full_shape 2 (record (no_progress 2) { stage = giving; taken = [] ∷ (Some ((number 4 ∷ text 120 ∷ []) ∷ []) ∷ Some ((number 1 ∷ text 121 ∷ []) ∷ []) ∷ []) ∷ [] }) true false ∷ the full_shape 3 (no_progress 1) true false ∷ [])
    (pipe 0 0 2 0 port.Ready port.Ready (None ∷ []) 0 true false ∷ pipe 1 0 2 1 port.Done port.Done (Some ((number 4 ∷ text 120 ∷ []) ∷ []) ∷ Some ((number 1 ∷ text 121 ∷ []) ∷ []) ∷ []) 2 false false ∷ pipe 2 0 3 0 port.Ready port.Ready [] 0 true false ∷ [])
    (piece 0 0 0 0 0 (hands_on) (left_fields ∷ []) (((number 1 ∷ []) ∷ []) ∷ []) ∷ [])

abbrev pub w15 : World
w15 =
    at 15 2 true
    (the full_shape 0 (record (no_progress 0) { sent = 2 }) true false ∷ the full_shape 1 (record (no_progress 0) { sent = 2 }) false false ∷ the full_shape 2 (record (no_progress 2) { stage = giving; taken = [] ∷ (Some ((number 4 ∷ text 120 ∷ []) ∷ []) ∷ Some ((number 1 ∷ text 121 ∷ []) ∷ []) ∷ []) ∷ [] }) true false ∷ the full_shape 3 (no_progress 1) true false ∷ [])
    (pipe 0 0 2 0 port.Ready port.Ready (None ∷ None ∷ []) 0 true false ∷ pipe 1 0 2 1 port.Done port.Done (Some ((number 4 ∷ text 120 ∷ []) ∷ []) ∷ Some ((number 1 ∷ text 121 ∷ []) ∷ []) ∷ []) 2 false false ∷ pipe 2 0 3 0 port.Ready port.Ready [] 0 true false ∷ [])
    (piece 0 0 1 1 1 (hands_on) (left_fields ∷ []) (((number 3 ∷ []) ∷ []) ∷ []) ∷ piece 0 0 0 0 0 (hands_on) (left_fields ∷ []) (((number 1 ∷ []) ∷ []) ∷ []) ∷ [])

abbrev pub w16 : World
w16 =
    at 16 2 true
    (the full_shape 0 (record (no_progress 0) { sent = 2 }) true false ∷ the full_shape 1 (record (no_progress 0) { sent = 2 }) false false ∷ the full_shape 2 (record (no_progress 2) { stage = giving; taken = [] ∷ (Some ((number 4 ∷ text 120 ∷ []) ∷ []) ∷ Some ((number 1 ∷ text 121 ∷ []) ∷ []) ∷ []) ∷ [] }) true false ∷ the full_shape 3 (no_progress 1) true false ∷ [])
    (pipe 0 0 2 0 port.Ready port.Ready (None ∷ Some ((number 3 ∷ []) ∷ []) ∷ []) 0 true false ∷ pipe 1 0 2 1 port.Done port.Done (Some ((number 4 ∷ text 120 ∷ []) ∷ []) ∷ Some ((number 1 ∷ text 121 ∷ []) ∷ []) ∷ []) 2 false false ∷ pipe 2 0 3 0 port.Ready port.Ready [] 0 true false ∷ [])
    (piece 0 0 0 0 0 (hands_on) (left_fields ∷ []) (((number 1 ∷ []) ∷ []) ∷ []) ∷ [])

abbrev pub w17 : World
w17 =
    at 17 2 true
    (the full_shape 0 (record (no_progress 0) { sent = 2 }) true false ∷ the full_shape 1 (record (no_progress 0) { sent = 2 }) false false ∷ the full_shape 2 (record (no_progress 2) { stage = giving; taken = [] ∷ (Some ((number 4 ∷ text 120 ∷ []) ∷ []) ∷ Some ((number 1 ∷ text 121 ∷ []) ∷ []) ∷ []) ∷ [] }) true false ∷ the full_shape 3 (no_progress 1) true false ∷ [])
    (pipe 0 0 2 0 port.Ready port.Ready (Some ((number 1 ∷ []) ∷ []) ∷ Some ((number 3 ∷ []) ∷ []) ∷ []) 0 true false ∷ pipe 1 0 2 1 port.Done port.Done (Some ((number 4 ∷ text 120 ∷ []) ∷ []) ∷ Some ((number 1 ∷ text 121 ∷ []) ∷ []) ∷ []) 2 false false ∷ pipe 2 0 3 0 port.Ready port.Ready [] 0 true false ∷ [])
    []

abbrev pub w18 : World
w18 =
    at 18 2 true
    (the full_shape 0 (record (no_progress 0) { sent = 2 }) true false ∷ the full_shape 1 (record (no_progress 0) { sent = 2 }) false false ∷ the full_shape 2 (record (no_progress 2) { stage = giving; taken = (Some ((number 1 ∷ []) ∷ []) ∷ []) ∷ (Some ((number 4 ∷ text 120 ∷ []) ∷ []) ∷ Some ((number 1 ∷ text 121 ∷ []) ∷ []) ∷ []) ∷ [] }) true false ∷ the full_shape 3 (no_progress 1) true false ∷ [])
    (pipe 0 0 2 0 port.Ready port.Ready (Some ((number 1 ∷ []) ∷ []) ∷ Some ((number 3 ∷ []) ∷ []) ∷ []) 1 true false ∷ pipe 1 0 2 1 port.Done port.Done (Some ((number 4 ∷ text 120 ∷ []) ∷ []) ∷ Some ((number 1 ∷ text 121 ∷ []) ∷ []) ∷ []) 2 false false ∷ pipe 2 0 3 0 port.Ready port.Ready (None ∷ []) 0 true false ∷ [])
    (piece 2 0 0 0 0 (probes (at_place full_shape 2) (on_k how.Full)) (left_fields ∷ right_fields ∷ []) (((number 1 ∷ []) ∷ []) ∷ ((number 4 ∷ text 120 ∷ []) ∷ (number 1 ∷ text 121 ∷ []) ∷ []) ∷ []) ∷ [])

abbrev pub w19 : World
w19 =
    at 19 2 true
    (the full_shape 0 (record (no_progress 0) { sent = 2 }) true false ∷ the full_shape 1 (record (no_progress 0) { sent = 2 }) false false ∷ the full_shape 2 (record (no_progress 2) { stage = giving; taken = (Some ((number 1 ∷ []) ∷ []) ∷ Some ((number 3 ∷ []) ∷ []) ∷ []) ∷ (Some ((number 4 ∷ text 120 ∷ []) ∷ []) ∷ Some ((number 1 ∷ text 121 ∷ []) ∷ []) ∷ []) ∷ [] }) true false ∷ the full_shape 3 (no_progress 1) true false ∷ [])
    (pipe 0 0 2 0 port.Ready port.Ready (Some ((number 1 ∷ []) ∷ []) ∷ Some ((number 3 ∷ []) ∷ []) ∷ []) 2 true false ∷ pipe 1 0 2 1 port.Done port.Done (Some ((number 4 ∷ text 120 ∷ []) ∷ []) ∷ Some ((number 1 ∷ text 121 ∷ []) ∷ []) ∷ []) 2 false false ∷ pipe 2 0 3 0 port.Ready port.Ready (None ∷ None ∷ []) 0 true false ∷ [])
    (piece 2 0 1 1 1 (probes (at_place full_shape 2) (on_k how.Full)) (left_fields ∷ right_fields ∷ []) (((number 3 ∷ []) ∷ []) ∷ ((number 4 ∷ text 120 ∷ []) ∷ (number 1 ∷ text 121 ∷ []) ∷ []) ∷ []) ∷ piece 2 0 0 0 0 (probes (at_place full_shape 2) (on_k how.Full)) (left_fields ∷ right_fields ∷ []) (((number 1 ∷ []) ∷ []) ∷ ((number 4 ∷ text 120 ∷ []) ∷ (number 1 ∷ text 121 ∷ []) ∷ []) ∷ []) ∷ [])

abbrev pub w20 : World
w20 =
    at 20 2 true
    (the full_shape 0 (record (no_progress 0) { sent = 2 }) true false ∷ the full_shape 1 (record (no_progress 0) { sent = 2 }) false false ∷ the full_shape 2 (record (no_progress 2) { stage = giving; taken = (Some ((number 1 ∷ []) ∷ []) ∷ Some ((number 3 ∷ []) ∷ []) ∷ []) ∷ (Some ((number 4 ∷ text 120 ∷ []) ∷ []) ∷ Some ((number 1 ∷ text 121 ∷ []) ∷ []) ∷ []) ∷ [] }) true false ∷ the full_shape 3 (no_progress 1) true false ∷ [])
    (pipe 0 0 2 0 port.Ready port.Ready (Some ((number 1 ∷ []) ∷ []) ∷ Some ((number 3 ∷ []) ∷ []) ∷ []) 2 true false ∷ pipe 1 0 2 1 port.Done port.Done (Some ((number 4 ∷ text 120 ∷ []) ∷ []) ∷ Some ((number 1 ∷ text 121 ∷ []) ∷ []) ∷ []) 2 false false ∷ pipe 2 0 3 0 port.Ready port.Ready (None ∷ Some ((number 3 ∷ val.Null ∷ val.Null ∷ []) ∷ []) ∷ []) 0 true false ∷ [])
    (piece 2 0 0 0 0 (probes (at_place full_shape 2) (on_k how.Full)) (left_fields ∷ right_fields ∷ []) (((number 1 ∷ []) ∷ []) ∷ ((number 4 ∷ text 120 ∷ []) ∷ (number 1 ∷ text 121 ∷ []) ∷ []) ∷ []) ∷ [])

abbrev pub w21 : World
w21 =
    at 21 2 true
    (the full_shape 0 (record (no_progress 0) { sent = 2 }) true false ∷ the full_shape 1 (record (no_progress 0) { sent = 2 }) false false ∷ the full_shape 2 (record (no_progress 2) { stage = giving; taken = (Some ((number 1 ∷ []) ∷ []) ∷ Some ((number 3 ∷ []) ∷ []) ∷ []) ∷ (Some ((number 4 ∷ text 120 ∷ []) ∷ []) ∷ Some ((number 1 ∷ text 121 ∷ []) ∷ []) ∷ []) ∷ [] }) true false ∷ the full_shape 3 (no_progress 1) true false ∷ [])
    (pipe 0 0 2 0 port.Ready port.Ready (Some ((number 1 ∷ []) ∷ []) ∷ Some ((number 3 ∷ []) ∷ []) ∷ []) 2 true false ∷ pipe 1 0 2 1 port.Done port.Done (Some ((number 4 ∷ text 120 ∷ []) ∷ []) ∷ Some ((number 1 ∷ text 121 ∷ []) ∷ []) ∷ []) 2 false false ∷ pipe 2 0 3 0 port.Ready port.Ready (Some ((number 1 ∷ number 1 ∷ text 121 ∷ []) ∷ []) ∷ Some ((number 3 ∷ val.Null ∷ val.Null ∷ []) ∷ []) ∷ []) 0 true false ∷ [])
    []

abbrev pub w22 : World
w22 =
    at 22 2 true
    (the full_shape 0 (record (no_progress 0) { sent = 2 }) true false ∷ the full_shape 1 (record (no_progress 0) { sent = 2 }) false false ∷ the full_shape 2 (record (no_progress 2) { stage = giving; taken = (Some ((number 1 ∷ []) ∷ []) ∷ Some ((number 3 ∷ []) ∷ []) ∷ []) ∷ (Some ((number 4 ∷ text 120 ∷ []) ∷ []) ∷ Some ((number 1 ∷ text 121 ∷ []) ∷ []) ∷ []) ∷ [] }) true false ∷ the full_shape 3 (record (no_progress 1) { stores = (((number 1 ∷ number 1 ∷ text 121 ∷ []) ∷ []) ∷ []) ∷ [] }) true false ∷ [])
    (pipe 0 0 2 0 port.Ready port.Ready (Some ((number 1 ∷ []) ∷ []) ∷ Some ((number 3 ∷ []) ∷ []) ∷ []) 2 true false ∷ pipe 1 0 2 1 port.Done port.Done (Some ((number 4 ∷ text 120 ∷ []) ∷ []) ∷ Some ((number 1 ∷ text 121 ∷ []) ∷ []) ∷ []) 2 false false ∷ pipe 2 0 3 0 port.Ready port.Ready (Some ((number 1 ∷ number 1 ∷ text 121 ∷ []) ∷ []) ∷ Some ((number 3 ∷ val.Null ∷ val.Null ∷ []) ∷ []) ∷ []) 1 true false ∷ [])
    []

abbrev pub w23 : World
w23 =
    at 23 2 true
    (the full_shape 0 (record (no_progress 0) { sent = 2 }) true false ∷ the full_shape 1 (record (no_progress 0) { sent = 2 }) false false ∷ the full_shape 2 (record (no_progress 2) { stage = giving; taken = (Some ((number 1 ∷ []) ∷ []) ∷ Some ((number 3 ∷ []) ∷ []) ∷ []) ∷ (Some ((number 4 ∷ text 120 ∷ []) ∷ []) ∷ Some ((number 1 ∷ text 121 ∷ []) ∷ []) ∷ []) ∷ [] }) true false ∷ the full_shape 3 (record (no_progress 1) { stores = (((number 1 ∷ number 1 ∷ text 121 ∷ []) ∷ []) ∷ ((number 3 ∷ val.Null ∷ val.Null ∷ []) ∷ []) ∷ []) ∷ [] }) true false ∷ [])
    (pipe 0 0 2 0 port.Ready port.Ready (Some ((number 1 ∷ []) ∷ []) ∷ Some ((number 3 ∷ []) ∷ []) ∷ []) 2 true false ∷ pipe 1 0 2 1 port.Done port.Done (Some ((number 4 ∷ text 120 ∷ []) ∷ []) ∷ Some ((number 1 ∷ text 121 ∷ []) ∷ []) ∷ []) 2 false false ∷ pipe 2 0 3 0 port.Ready port.Ready (Some ((number 1 ∷ number 1 ∷ text 121 ∷ []) ∷ []) ∷ Some ((number 3 ∷ val.Null ∷ val.Null ∷ []) ∷ []) ∷ []) 2 true false ∷ [])
    []

abbrev pub w24 : World
w24 =
    at 24 2 true
    (the full_shape 0 (record (no_progress 0) { sent = 2 }) true true ∷ the full_shape 1 (record (no_progress 0) { sent = 2 }) false false ∷ the full_shape 2 (record (no_progress 2) { stage = giving; taken = (Some ((number 1 ∷ []) ∷ []) ∷ Some ((number 3 ∷ []) ∷ []) ∷ []) ∷ (Some ((number 4 ∷ text 120 ∷ []) ∷ []) ∷ Some ((number 1 ∷ text 121 ∷ []) ∷ []) ∷ []) ∷ [] }) true false ∷ the full_shape 3 (record (no_progress 1) { stores = (((number 1 ∷ number 1 ∷ text 121 ∷ []) ∷ []) ∷ ((number 3 ∷ val.Null ∷ val.Null ∷ []) ∷ []) ∷ []) ∷ [] }) true false ∷ [])
    (pipe 0 0 2 0 port.Ready port.Ready (Some ((number 1 ∷ []) ∷ []) ∷ Some ((number 3 ∷ []) ∷ []) ∷ []) 2 true true ∷ pipe 1 0 2 1 port.Done port.Done (Some ((number 4 ∷ text 120 ∷ []) ∷ []) ∷ Some ((number 1 ∷ text 121 ∷ []) ∷ []) ∷ []) 2 false false ∷ pipe 2 0 3 0 port.Ready port.Ready (Some ((number 1 ∷ number 1 ∷ text 121 ∷ []) ∷ []) ∷ Some ((number 3 ∷ val.Null ∷ val.Null ∷ []) ∷ []) ∷ []) 2 true false ∷ [])
    []

abbrev pub w25 : World
w25 =
    at 25 2 true
    (the full_shape 0 (record (no_progress 0) { sent = 2 }) true true ∷ the full_shape 1 (record (no_progress 0) { sent = 2 }) false false ∷ the full_shape 2 (record (no_progress 2) { stage = giving; taken = (Some ((number 1 ∷ []) ∷ []) ∷ Some ((number 3 ∷ []) ∷ []) ∷ []) ∷ (Some ((number 4 ∷ text 120 ∷ []) ∷ []) ∷ Some ((number 1 ∷ text 121 ∷ []) ∷ []) ∷ []) ∷ [] }) true true ∷ the full_shape 3 (record (no_progress 1) { stores = (((number 1 ∷ number 1 ∷ text 121 ∷ []) ∷ []) ∷ ((number 3 ∷ val.Null ∷ val.Null ∷ []) ∷ []) ∷ []) ∷ [] }) true false ∷ [])
    (pipe 0 0 2 0 port.Ready port.Ready (Some ((number 1 ∷ []) ∷ []) ∷ Some ((number 3 ∷ []) ∷ []) ∷ []) 2 true true ∷ pipe 1 0 2 1 port.Done port.Done (Some ((number 4 ∷ text 120 ∷ []) ∷ []) ∷ Some ((number 1 ∷ text 121 ∷ []) ∷ []) ∷ []) 2 false false ∷ pipe 2 0 3 0 port.Ready port.Ready (Some ((number 1 ∷ number 1 ∷ text 121 ∷ []) ∷ []) ∷ Some ((number 3 ∷ val.Null ∷ val.Null ∷ []) ∷ []) ∷ []) 2 true true ∷ [])
    []

abbrev pub w26 : World
w26 =
    at 26 2 true
    (the full_shape 0 (record (no_progress 0) { sent = 2 }) true true ∷ the full_shape 1 (record (no_progress 0) { sent = 2 }) false false ∷ the full_shape 2 (record (no_progress 2) { stage = giving; taken = (Some ((number 1 ∷ []) ∷ []) ∷ Some ((number 3 ∷ []) ∷ []) ∷ []) ∷ (Some ((number 4 ∷ text 120 ∷ []) ∷ []) ∷ Some ((number 1 ∷ text 121 ∷ []) ∷ []) ∷ []) ∷ [] }) true true ∷ the full_shape 3 (record (no_progress 1) { stores = (((number 1 ∷ number 1 ∷ text 121 ∷ []) ∷ []) ∷ ((number 3 ∷ val.Null ∷ val.Null ∷ []) ∷ []) ∷ []) ∷ [] }) true true ∷ [])
    (pipe 0 0 2 0 port.Ready port.Ready (Some ((number 1 ∷ []) ∷ []) ∷ Some ((number 3 ∷ []) ∷ []) ∷ []) 2 true true ∷ pipe 1 0 2 1 port.Done port.Done (Some ((number 4 ∷ text 120 ∷ []) ∷ []) ∷ Some ((number 1 ∷ text 121 ∷ []) ∷ []) ∷ []) 2 false false ∷ pipe 2 0 3 0 port.Ready port.Ready (Some ((number 1 ∷ number 1 ∷ text 121 ∷ []) ∷ []) ∷ Some ((number 3 ∷ val.Null ∷ val.Null ∷ []) ∷ []) ∷ []) 2 true true ∷ [])
    []

abbrev pub w27 : World
w27 =
    at 27 2 false
    (the full_shape 0 (record (no_progress 0) { sent = 2 }) false false ∷ the full_shape 1 (record (no_progress 0) { sent = 2 }) false false ∷ the full_shape 2 (record (no_progress 2) { stage = giving; taken = (Some ((number 1 ∷ []) ∷ []) ∷ Some ((number 3 ∷ []) ∷ []) ∷ []) ∷ (Some ((number 4 ∷ text 120 ∷ []) ∷ []) ∷ Some ((number 1 ∷ text 121 ∷ []) ∷ []) ∷ []) ∷ [] }) false false ∷ the full_shape 3 (record (no_progress 1) { stores = (((number 1 ∷ number 1 ∷ text 121 ∷ []) ∷ []) ∷ ((number 3 ∷ val.Null ∷ val.Null ∷ []) ∷ []) ∷ []) ∷ [] }) false false ∷ [])
    (pipe 0 0 2 0 port.Ready port.Ready (Some ((number 1 ∷ []) ∷ []) ∷ Some ((number 3 ∷ []) ∷ []) ∷ []) 2 false false ∷ pipe 1 0 2 1 port.Done port.Done (Some ((number 4 ∷ text 120 ∷ []) ∷ []) ∷ Some ((number 1 ∷ text 121 ∷ []) ∷ []) ∷ []) 2 false false ∷ pipe 2 0 3 0 port.Ready port.Ready (Some ((number 1 ∷ number 1 ∷ text 121 ∷ []) ∷ []) ∷ Some ((number 3 ∷ val.Null ∷ val.Null ∷ []) ∷ []) ∷ []) 2 false false ∷ [])
    []

abbrev pub s3 : World
s3 =
    at 27 2 false
    (the full_shape 0 (record (no_progress 0) { sent = 2 }) false false ∷ the full_shape 1 (record (no_progress 0) { sent = 2 }) false false ∷ the full_shape 2 (record (no_progress 2) { stage = giving; taken = (Some ((number 1 ∷ []) ∷ []) ∷ Some ((number 3 ∷ []) ∷ []) ∷ []) ∷ (Some ((number 4 ∷ text 120 ∷ []) ∷ []) ∷ Some ((number 1 ∷ text 121 ∷ []) ∷ []) ∷ []) ∷ [] }) false false ∷ the full_shape 3 (record (no_progress 1) { stores = (((number 1 ∷ number 1 ∷ text 121 ∷ []) ∷ []) ∷ ((number 3 ∷ val.Null ∷ val.Null ∷ []) ∷ []) ∷ []) ∷ [] }) false false ∷ [])
    (pipe 0 0 2 0 port.Done port.Done (Some ((number 1 ∷ []) ∷ []) ∷ Some ((number 3 ∷ []) ∷ []) ∷ []) 2 false false ∷ pipe 1 0 2 1 port.Done port.Done (Some ((number 4 ∷ text 120 ∷ []) ∷ []) ∷ Some ((number 1 ∷ text 121 ∷ []) ∷ []) ∷ []) 2 false false ∷ pipe 2 0 3 0 port.Ready port.Ready (Some ((number 1 ∷ number 1 ∷ text 121 ∷ []) ∷ []) ∷ Some ((number 3 ∷ val.Null ∷ val.Null ∷ []) ∷ []) ∷ []) 2 false false ∷ [])
    []

abbrev pub w28 : World
w28 =
    at 28 3 true
    (the full_shape 0 (record (no_progress 0) { sent = 2 }) false false ∷ the full_shape 1 (record (no_progress 0) { sent = 2 }) false false ∷ the full_shape 2 (record (no_progress 2) { stage = giving; taken = (Some ((number 1 ∷ []) ∷ []) ∷ Some ((number 3 ∷ []) ∷ []) ∷ []) ∷ (Some ((number 4 ∷ text 120 ∷ []) ∷ []) ∷ Some ((number 1 ∷ text 121 ∷ []) ∷ []) ∷ []) ∷ [] }) true false ∷ the full_shape 3 (record (no_progress 1) { stores = (((number 1 ∷ number 1 ∷ text 121 ∷ []) ∷ []) ∷ ((number 3 ∷ val.Null ∷ val.Null ∷ []) ∷ []) ∷ []) ∷ [] }) true false ∷ [])
    (pipe 0 0 2 0 port.Done port.Done (Some ((number 1 ∷ []) ∷ []) ∷ Some ((number 3 ∷ []) ∷ []) ∷ []) 2 false false ∷ pipe 1 0 2 1 port.Done port.Done (Some ((number 4 ∷ text 120 ∷ []) ∷ []) ∷ Some ((number 1 ∷ text 121 ∷ []) ∷ []) ∷ []) 2 false false ∷ pipe 2 0 3 0 port.Ready port.Ready (Some ((number 1 ∷ number 1 ∷ text 121 ∷ []) ∷ []) ∷ Some ((number 3 ∷ val.Null ∷ val.Null ∷ []) ∷ []) ∷ []) 2 true false ∷ [])
    []

abbrev pub w29 : World
w29 =
    at 29 3 true
    (the full_shape 0 (record (no_progress 0) { sent = 2 }) false false ∷ the full_shape 1 (record (no_progress 0) { sent = 2 }) false false ∷ the full_shape 2 (record (no_progress 2) { stage = giving; sent = 1; taken = (Some ((number 1 ∷ []) ∷ []) ∷ Some ((number 3 ∷ []) ∷ []) ∷ []) ∷ (Some ((number 4 ∷ text 120 ∷ []) ∷ []) ∷ Some ((number 1 ∷ text 121 ∷ []) ∷ []) ∷ []) ∷ [] }) true false ∷ the full_shape 3 (record (no_progress 1) { stores = (((number 1 ∷ number 1 ∷ text 121 ∷ []) ∷ []) ∷ ((number 3 ∷ val.Null ∷ val.Null ∷ []) ∷ []) ∷ []) ∷ [] }) true false ∷ [])
    (pipe 0 0 2 0 port.Done port.Done (Some ((number 1 ∷ []) ∷ []) ∷ Some ((number 3 ∷ []) ∷ []) ∷ []) 2 false false ∷ pipe 1 0 2 1 port.Done port.Done (Some ((number 4 ∷ text 120 ∷ []) ∷ []) ∷ Some ((number 1 ∷ text 121 ∷ []) ∷ []) ∷ []) 2 false false ∷ pipe 2 0 3 0 port.Ready port.Ready (Some ((number 1 ∷ number 1 ∷ text 121 ∷ []) ∷ []) ∷ Some ((number 3 ∷ val.Null ∷ val.Null ∷ []) ∷ []) ∷ None ∷ []) 2 true false ∷ [])
    (piece 2 0 2 0 2 (gives_last (at_place full_shape 2) (on_k how.Full)) (left_fields ∷ right_fields ∷ []) (((number 1 ∷ []) ∷ (number 3 ∷ []) ∷ []) ∷ ((number 4 ∷ text 120 ∷ []) ∷ (number 1 ∷ text 121 ∷ []) ∷ []) ∷ []) ∷ [])

abbrev pub w30 : World
w30 =
    at 30 3 true
    (the full_shape 0 (record (no_progress 0) { sent = 2 }) false false ∷ the full_shape 1 (record (no_progress 0) { sent = 2 }) false false ∷ the full_shape 2 (record (no_progress 2) { stage = giving; sent = 1; taken = (Some ((number 1 ∷ []) ∷ []) ∷ Some ((number 3 ∷ []) ∷ []) ∷ []) ∷ (Some ((number 4 ∷ text 120 ∷ []) ∷ []) ∷ Some ((number 1 ∷ text 121 ∷ []) ∷ []) ∷ []) ∷ [] }) true false ∷ the full_shape 3 (record (no_progress 1) { stores = (((number 1 ∷ number 1 ∷ text 121 ∷ []) ∷ []) ∷ ((number 3 ∷ val.Null ∷ val.Null ∷ []) ∷ []) ∷ []) ∷ [] }) true false ∷ [])
    (pipe 0 0 2 0 port.Done port.Done (Some ((number 1 ∷ []) ∷ []) ∷ Some ((number 3 ∷ []) ∷ []) ∷ []) 2 false false ∷ pipe 1 0 2 1 port.Done port.Done (Some ((number 4 ∷ text 120 ∷ []) ∷ []) ∷ Some ((number 1 ∷ text 121 ∷ []) ∷ []) ∷ []) 2 false false ∷ pipe 2 0 3 0 port.Ready port.Ready (Some ((number 1 ∷ number 1 ∷ text 121 ∷ []) ∷ []) ∷ Some ((number 3 ∷ val.Null ∷ val.Null ∷ []) ∷ []) ∷ Some ((val.Null ∷ number 4 ∷ text 120 ∷ []) ∷ []) ∷ []) 2 true false ∷ [])
    []

abbrev pub w31 : World
w31 =
    at 31 3 true
    (the full_shape 0 (record (no_progress 0) { sent = 2 }) false false ∷ the full_shape 1 (record (no_progress 0) { sent = 2 }) false false ∷ the full_shape 2 (record (no_progress 2) { stage = giving; sent = 1; taken = (Some ((number 1 ∷ []) ∷ []) ∷ Some ((number 3 ∷ []) ∷ []) ∷ []) ∷ (Some ((number 4 ∷ text 120 ∷ []) ∷ []) ∷ Some ((number 1 ∷ text 121 ∷ []) ∷ []) ∷ []) ∷ [] }) true false ∷ the full_shape 3 (record (no_progress 1) { stores = (((number 1 ∷ number 1 ∷ text 121 ∷ []) ∷ []) ∷ ((number 3 ∷ val.Null ∷ val.Null ∷ []) ∷ []) ∷ ((val.Null ∷ number 4 ∷ text 120 ∷ []) ∷ []) ∷ []) ∷ [] }) true false ∷ [])
    (pipe 0 0 2 0 port.Done port.Done (Some ((number 1 ∷ []) ∷ []) ∷ Some ((number 3 ∷ []) ∷ []) ∷ []) 2 false false ∷ pipe 1 0 2 1 port.Done port.Done (Some ((number 4 ∷ text 120 ∷ []) ∷ []) ∷ Some ((number 1 ∷ text 121 ∷ []) ∷ []) ∷ []) 2 false false ∷ pipe 2 0 3 0 port.Ready port.Ready (Some ((number 1 ∷ number 1 ∷ text 121 ∷ []) ∷ []) ∷ Some ((number 3 ∷ val.Null ∷ val.Null ∷ []) ∷ []) ∷ Some ((val.Null ∷ number 4 ∷ text 120 ∷ []) ∷ []) ∷ []) 3 true false ∷ [])
    []

abbrev pub w32 : World
w32 =
    at 32 3 true
    (the full_shape 0 (record (no_progress 0) { sent = 2 }) false false ∷ the full_shape 1 (record (no_progress 0) { sent = 2 }) false false ∷ the full_shape 2 (record (no_progress 2) { stage = giving; sent = 1; taken = (Some ((number 1 ∷ []) ∷ []) ∷ Some ((number 3 ∷ []) ∷ []) ∷ []) ∷ (Some ((number 4 ∷ text 120 ∷ []) ∷ []) ∷ Some ((number 1 ∷ text 121 ∷ []) ∷ []) ∷ []) ∷ [] }) true true ∷ the full_shape 3 (record (no_progress 1) { stores = (((number 1 ∷ number 1 ∷ text 121 ∷ []) ∷ []) ∷ ((number 3 ∷ val.Null ∷ val.Null ∷ []) ∷ []) ∷ ((val.Null ∷ number 4 ∷ text 120 ∷ []) ∷ []) ∷ []) ∷ [] }) true false ∷ [])
    (pipe 0 0 2 0 port.Done port.Done (Some ((number 1 ∷ []) ∷ []) ∷ Some ((number 3 ∷ []) ∷ []) ∷ []) 2 false false ∷ pipe 1 0 2 1 port.Done port.Done (Some ((number 4 ∷ text 120 ∷ []) ∷ []) ∷ Some ((number 1 ∷ text 121 ∷ []) ∷ []) ∷ []) 2 false false ∷ pipe 2 0 3 0 port.Ready port.Ready (Some ((number 1 ∷ number 1 ∷ text 121 ∷ []) ∷ []) ∷ Some ((number 3 ∷ val.Null ∷ val.Null ∷ []) ∷ []) ∷ Some ((val.Null ∷ number 4 ∷ text 120 ∷ []) ∷ []) ∷ []) 3 true true ∷ [])
    []

abbrev pub w33 : World
w33 =
    at 33 3 true
    (the full_shape 0 (record (no_progress 0) { sent = 2 }) false false ∷ the full_shape 1 (record (no_progress 0) { sent = 2 }) false false ∷ the full_shape 2 (record (no_progress 2) { stage = giving; sent = 1; taken = (Some ((number 1 ∷ []) ∷ []) ∷ Some ((number 3 ∷ []) ∷ []) ∷ []) ∷ (Some ((number 4 ∷ text 120 ∷ []) ∷ []) ∷ Some ((number 1 ∷ text 121 ∷ []) ∷ []) ∷ []) ∷ [] }) true true ∷ the full_shape 3 (record (no_progress 1) { stores = (((number 1 ∷ number 1 ∷ text 121 ∷ []) ∷ []) ∷ ((number 3 ∷ val.Null ∷ val.Null ∷ []) ∷ []) ∷ ((val.Null ∷ number 4 ∷ text 120 ∷ []) ∷ []) ∷ []) ∷ [] }) true true ∷ [])
    (pipe 0 0 2 0 port.Done port.Done (Some ((number 1 ∷ []) ∷ []) ∷ Some ((number 3 ∷ []) ∷ []) ∷ []) 2 false false ∷ pipe 1 0 2 1 port.Done port.Done (Some ((number 4 ∷ text 120 ∷ []) ∷ []) ∷ Some ((number 1 ∷ text 121 ∷ []) ∷ []) ∷ []) 2 false false ∷ pipe 2 0 3 0 port.Ready port.Ready (Some ((number 1 ∷ number 1 ∷ text 121 ∷ []) ∷ []) ∷ Some ((number 3 ∷ val.Null ∷ val.Null ∷ []) ∷ []) ∷ Some ((val.Null ∷ number 4 ∷ text 120 ∷ []) ∷ []) ∷ []) 3 true true ∷ [])
    []

abbrev pub w34 : World
w34 =
    at 34 3 false
    (the full_shape 0 (record (no_progress 0) { sent = 2 }) false false ∷ the full_shape 1 (record (no_progress 0) { sent = 2 }) false false ∷ the full_shape 2 (record (no_progress 2) { stage = giving; sent = 1; taken = (Some ((number 1 ∷ []) ∷ []) ∷ Some ((number 3 ∷ []) ∷ []) ∷ []) ∷ (Some ((number 4 ∷ text 120 ∷ []) ∷ []) ∷ Some ((number 1 ∷ text 121 ∷ []) ∷ []) ∷ []) ∷ [] }) false false ∷ the full_shape 3 (record (no_progress 1) { stores = (((number 1 ∷ number 1 ∷ text 121 ∷ []) ∷ []) ∷ ((number 3 ∷ val.Null ∷ val.Null ∷ []) ∷ []) ∷ ((val.Null ∷ number 4 ∷ text 120 ∷ []) ∷ []) ∷ []) ∷ [] }) false false ∷ [])
    (pipe 0 0 2 0 port.Done port.Done (Some ((number 1 ∷ []) ∷ []) ∷ Some ((number 3 ∷ []) ∷ []) ∷ []) 2 false false ∷ pipe 1 0 2 1 port.Done port.Done (Some ((number 4 ∷ text 120 ∷ []) ∷ []) ∷ Some ((number 1 ∷ text 121 ∷ []) ∷ []) ∷ []) 2 false false ∷ pipe 2 0 3 0 port.Ready port.Ready (Some ((number 1 ∷ number 1 ∷ text 121 ∷ []) ∷ []) ∷ Some ((number 3 ∷ val.Null ∷ val.Null ∷ []) ∷ []) ∷ Some ((val.Null ∷ number 4 ∷ text 120 ∷ []) ∷ []) ∷ []) 3 false false ∷ [])
    []

abbrev pub s4 : World
s4 =
    at 34 3 false
    (the full_shape 0 (record (no_progress 0) { sent = 2 }) false false ∷ the full_shape 1 (record (no_progress 0) { sent = 2 }) false false ∷ the full_shape 2 (record (no_progress 2) { stage = spent; sent = 1; taken = (Some ((number 1 ∷ []) ∷ []) ∷ Some ((number 3 ∷ []) ∷ []) ∷ []) ∷ (Some ((number 4 ∷ text 120 ∷ []) ∷ []) ∷ Some ((number 1 ∷ text 121 ∷ []) ∷ []) ∷ []) ∷ [] }) false false ∷ the full_shape 3 (record (no_progress 1) { stores = (((number 1 ∷ number 1 ∷ text 121 ∷ []) ∷ []) ∷ ((number 3 ∷ val.Null ∷ val.Null ∷ []) ∷ []) ∷ ((val.Null ∷ number 4 ∷ text 120 ∷ []) ∷ []) ∷ []) ∷ [] }) false false ∷ [])
    (pipe 0 0 2 0 port.Done port.Done (Some ((number 1 ∷ []) ∷ []) ∷ Some ((number 3 ∷ []) ∷ []) ∷ []) 2 false false ∷ pipe 1 0 2 1 port.Done port.Done (Some ((number 4 ∷ text 120 ∷ []) ∷ []) ∷ Some ((number 1 ∷ text 121 ∷ []) ∷ []) ∷ []) 2 false false ∷ pipe 2 0 3 0 port.Done port.Done (Some ((number 1 ∷ number 1 ∷ text 121 ∷ []) ∷ []) ∷ Some ((number 3 ∷ val.Null ∷ val.Null ∷ []) ∷ []) ∷ Some ((val.Null ∷ number 4 ∷ text 120 ∷ []) ∷ []) ∷ []) 3 false false ∷ [])
    []

abbrev pub w35 : World
w35 =
    record (at 35 4 false
    (the full_shape 0 (record (no_progress 0) { sent = 2 }) false false ∷ the full_shape 1 (record (no_progress 0) { sent = 2 }) false false ∷ the full_shape 2 (record (no_progress 2) { stage = spent; sent = 1; taken = (Some ((number 1 ∷ []) ∷ []) ∷ Some ((number 3 ∷ []) ∷ []) ∷ []) ∷ (Some ((number 4 ∷ text 120 ∷ []) ∷ []) ∷ Some ((number 1 ∷ text 121 ∷ []) ∷ []) ∷ []) ∷ [] }) false false ∷ the full_shape 3 (record (no_progress 1) { stores = (((number 1 ∷ number 1 ∷ text 121 ∷ []) ∷ []) ∷ ((number 3 ∷ val.Null ∷ val.Null ∷ []) ∷ []) ∷ ((val.Null ∷ number 4 ∷ text 120 ∷ []) ∷ []) ∷ []) ∷ [] }) false false ∷ [])
    (pipe 0 0 2 0 port.Done port.Done (Some ((number 1 ∷ []) ∷ []) ∷ Some ((number 3 ∷ []) ∷ []) ∷ []) 2 false false ∷ pipe 1 0 2 1 port.Done port.Done (Some ((number 4 ∷ text 120 ∷ []) ∷ []) ∷ Some ((number 1 ∷ text 121 ∷ []) ∷ []) ∷ []) 2 false false ∷ pipe 2 0 3 0 port.Done port.Done (Some ((number 1 ∷ number 1 ∷ text 121 ∷ []) ∷ []) ∷ Some ((number 3 ∷ val.Null ∷ val.Null ∷ []) ∷ []) ∷ Some ((val.Null ∷ number 4 ∷ text 120 ∷ []) ∷ []) ∷ []) 3 false false ∷ [])
    []) { ending = finished }

updates_1 : (F : Functions) → Updates F w0 s1
updates_1 F = same F 3 (refl, refl, inl (refl, refl)) (same F 2 (refl, refl, inl (refl, refl)) (same F 1 (refl, refl, inl (refl, refl)) (same F 0 (refl, refl, inl (refl, refl)) (no_update))))

settled_1 : IsSettled s1
settled_1 = settled_by s1 (record { stage = refl; states = refl; agrees = refl; filled = refl }, (record { stage = refl; states = refl; agrees = refl; filled = refl }, (record { stage = refl; states = refl; agrees = refl; filled = refl }, (record { stage = refl; states = refl; agrees = refl; filled = refl }, tt))))

step_1 : (F : Functions) → Steps F w0 (opened 1) w1
step_1 F = (refl, refl, refl, (s1, updates_1 F, settles settled_1 refl))

step_2 : (F : Functions) → Steps F w1 (claimed 1 0 0 0) w2
step_2 F = (node_of w1 1, (refl, refl, refl), (omega arith, tt), refl, (refl, tt), (get_claim (claim_at w1 1 0 (node_of w1 1)), refl, refl, refl))

step_3 : (F : Functions) → Steps F w2 (claimed 1 0 1 1) w3
step_3 F = (node_of w2 1, (refl, refl, refl), (omega arith, ((λ e. absurd (let no : 0 ≡ 1 = e in omega arith)), tt)), refl, (refl, tt), (get_claim (claim_at w2 1 0 (node_of w2 1)), refl, refl, refl))

step_4 : (F : Functions) → Steps F w3 (handed_in 1 0 1 1 (rows 1)) w4
step_4 F = (piece 1 0 1 1 1 (hands_on) (right_fields ∷ []) (((number 1 ∷ text 121 ∷ []) ∷ []) ∷ []), (0, omega arith, refl), refl, refl, refl, refl, refl, (good ((number 1 ∷ text 121 ∷ []) ∷ []), refl, refl, refl))

step_5 : (F : Functions) → Steps F w4 (handed_in 1 0 0 0 (rows 1)) w5
step_5 F = (piece 1 0 0 0 0 (hands_on) (right_fields ∷ []) (((number 4 ∷ text 120 ∷ []) ∷ []) ∷ []), (0, omega arith, refl), refl, refl, refl, refl, refl, (good ((number 4 ∷ text 120 ∷ []) ∷ []), refl, refl, refl))

step_6 : (F : Functions) → Steps F w5 (claimed 2 1 0 0) w6
step_6 F = (node_of w5 2, (refl, refl, refl), (omega arith, tt), refl, tt, (get_claim (claim_at w5 2 1 (node_of w5 2)), refl, refl, refl))

step_7 : (F : Functions) → Steps F w6 (claimed 2 1 1 1) w7
step_7 F = (node_of w6 2, (refl, refl, refl), (omega arith, ((λ e. absurd (let no : 0 ≡ 1 = e in omega arith)), tt)), refl, tt, (get_claim (claim_at w6 2 1 (node_of w6 2)), refl, refl, refl))

step_8 : (F : Functions) → Steps F w7 (handed_in 2 1 1 1 (rows 1)) w8
step_8 F = (piece 2 1 1 1 1 (keeps (at_place full_shape 2)) (right_fields ∷ []) (((number 1 ∷ text 121 ∷ []) ∷ []) ∷ []), (0, omega arith, refl), refl, refl, refl, refl, refl, (partial 1, (refl, refl), refl, refl))

step_9 : (F : Functions) → Steps F w8 (handed_in 2 1 0 0 (rows 1)) w9
step_9 F = (piece 2 1 0 0 0 (keeps (at_place full_shape 2)) (right_fields ∷ []) (((number 4 ∷ text 120 ∷ []) ∷ []) ∷ []), (0, omega arith, refl), refl, refl, refl, refl, refl, (partial 1, (refl, refl), refl, refl))

step_10 : (F : Functions) → Steps F w9 (closed 1) w10
step_10 F = (node_of w9 1, (refl, refl, refl), refl, inl (refl, λ i. both_none (nat_eq i 0)), refl)

ends_11 : (i : ℕ) → claim_at w10 2 i (node_of w10 2) ≡ None
ends_11 zero = refl
ends_11 (suc i) = ap (λ next. claim_of two_singly (node_of w10 2).node (schemas_for w10 (node_of w10 2)) (node_of w10 2).progress [] (inputs_done w10 2) (suc i) next) (no_next w10 2 (suc i) refl)

step_11 : (F : Functions) → Steps F w10 (closed 2) w11
step_11 F = (node_of w10 2, (refl, refl, refl), refl, inl (refl, ends_11), refl)

step_12 : (F : Functions) → Steps F w11 (ended 1) w12
step_12 F = (refl, refl, refl, ((λ h. absurd (let no : false ≡ true = h in cc)), ((λ h. refl), ((λ h. refl), ((λ h. absurd (let no : false ≡ true = h in cc)), tt)))), refl)

updates_2 : (F : Functions) → Updates F w12 s2
updates_2 F = same F 1 (refl, refl, inl (refl, refl)) (turned F 2 (record (no_progress 2) { stage = giving; taken = [] ∷ (Some ((number 4 ∷ text 120 ∷ []) ∷ []) ∷ Some ((number 1 ∷ text 121 ∷ []) ∷ []) ∷ []) ∷ [] }) (refl, refl, inr (refl, record (no_progress 2) { taken = [] ∷ (Some ((number 4 ∷ text 120 ∷ []) ∷ []) ∷ Some ((number 1 ∷ text 121 ∷ []) ∷ []) ∷ []) ∷ [] }, refl, refl)) (no_update))

settled_2 : IsSettled s2
settled_2 = settled_by s2 (record { stage = refl; states = refl; agrees = refl; filled = refl }, (record { stage = refl; states = refl; agrees = refl; filled = refl }, (record { stage = refl; states = refl; agrees = refl; filled = refl }, (record { stage = refl; states = refl; agrees = refl; filled = refl }, tt))))

step_13 : (F : Functions) → Steps F w12 (opened 2) w13
step_13 F = (refl, refl, refl, (s2, updates_2 F, settles settled_2 refl))

step_14 : (F : Functions) → Steps F w13 (claimed 0 0 0 0) w14
step_14 F = (node_of w13 0, (refl, refl, refl), (omega arith, tt), refl, (refl, tt), (get_claim (claim_at w13 0 0 (node_of w13 0)), refl, refl, refl))

step_15 : (F : Functions) → Steps F w14 (claimed 0 0 1 1) w15
step_15 F = (node_of w14 0, (refl, refl, refl), (omega arith, ((λ e. absurd (let no : 0 ≡ 1 = e in omega arith)), tt)), refl, (refl, tt), (get_claim (claim_at w14 0 0 (node_of w14 0)), refl, refl, refl))

step_16 : (F : Functions) → Steps F w15 (handed_in 0 0 1 1 (rows 1)) w16
step_16 F = (piece 0 0 1 1 1 (hands_on) (left_fields ∷ []) (((number 3 ∷ []) ∷ []) ∷ []), (0, omega arith, refl), refl, refl, refl, refl, refl, (good ((number 3 ∷ []) ∷ []), refl, refl, refl))

step_17 : (F : Functions) → Steps F w16 (handed_in 0 0 0 0 (rows 1)) w17
step_17 F = (piece 0 0 0 0 0 (hands_on) (left_fields ∷ []) (((number 1 ∷ []) ∷ []) ∷ []), (0, omega arith, refl), refl, refl, refl, refl, refl, (good ((number 1 ∷ []) ∷ []), refl, refl, refl))

step_18 : (F : Functions) → Steps F w17 (claimed 2 0 0 0) w18
step_18 F = (node_of w17 2, (refl, refl, refl), (omega arith, tt), refl, (refl, tt), (get_claim (claim_at w17 2 0 (node_of w17 2)), refl, refl, refl))

step_19 : (F : Functions) → Steps F w18 (claimed 2 0 1 1) w19
step_19 F = (node_of w18 2, (refl, refl, refl), (omega arith, ((λ e. absurd (let no : 0 ≡ 1 = e in omega arith)), tt)), refl, (refl, tt), (get_claim (claim_at w18 2 0 (node_of w18 2)), refl, refl, refl))

step_20 : (F : Functions) → Steps F w19 (handed_in 2 0 1 1 (rows 1)) w20
step_20 F = (piece 2 0 1 1 1 (probes (at_place full_shape 2) (on_k how.Full)) (left_fields ∷ right_fields ∷ []) (((number 3 ∷ []) ∷ []) ∷ ((number 4 ∷ text 120 ∷ []) ∷ (number 1 ∷ text 121 ∷ []) ∷ []) ∷ []), (0, omega arith, refl), refl, refl, refl, refl, refl, (good ((number 3 ∷ val.Null ∷ val.Null ∷ []) ∷ []), (refl, refl, refl, omega arith), refl, refl))

step_21 : (F : Functions) → Steps F w20 (handed_in 2 0 0 0 (rows 1)) w21
step_21 F = (piece 2 0 0 0 0 (probes (at_place full_shape 2) (on_k how.Full)) (left_fields ∷ right_fields ∷ []) (((number 1 ∷ []) ∷ []) ∷ ((number 4 ∷ text 120 ∷ []) ∷ (number 1 ∷ text 121 ∷ []) ∷ []) ∷ []), (0, omega arith, refl), refl, refl, refl, refl, refl, (good ((number 1 ∷ number 1 ∷ text 121 ∷ []) ∷ []), (refl, refl, refl, omega arith), refl, refl))

step_22 : (F : Functions) → Steps F w21 (pulled 3 0 0) w22
step_22 F = (node_of w21 3, (refl, refl, refl), refl, refl, (pipe 2 0 3 0 port.Ready port.Ready (Some ((number 1 ∷ number 1 ∷ text 121 ∷ []) ∷ []) ∷ Some ((number 3 ∷ val.Null ∷ val.Null ∷ []) ∷ []) ∷ []) 0 true false, ((number 1 ∷ number 1 ∷ text 121 ∷ []) ∷ []), (2, omega arith, refl), refl, refl, refl, refl, refl, refl))

step_23 : (F : Functions) → Steps F w22 (pulled 3 0 1) w23
step_23 F = (node_of w22 3, (refl, refl, refl), refl, refl, (pipe 2 0 3 0 port.Ready port.Ready (Some ((number 1 ∷ number 1 ∷ text 121 ∷ []) ∷ []) ∷ Some ((number 3 ∷ val.Null ∷ val.Null ∷ []) ∷ []) ∷ []) 1 true false, ((number 3 ∷ val.Null ∷ val.Null ∷ []) ∷ []), (2, omega arith, refl), refl, refl, refl, refl, refl, refl))

step_24 : (F : Functions) → Steps F w23 (closed 0) w24
step_24 F = (node_of w23 0, (refl, refl, refl), refl, inl (refl, λ i. both_none (nat_eq i 0)), refl)

ends_25 : (i : ℕ) → claim_at w24 2 i (node_of w24 2) ≡ None
ends_25 zero = refl
ends_25 (suc i) = ap (λ next. claim_of two_singly (node_of w24 2).node (schemas_for w24 (node_of w24 2)) (node_of w24 2).progress [] (inputs_done w24 2) (suc i) next) (no_next w24 2 (suc i) refl)

step_25 : (F : Functions) → Steps F w24 (closed 2) w25
step_25 F = (node_of w24 2, (refl, refl, refl), refl, inl (refl, ends_25), refl)

step_26 : (F : Functions) → Steps F w25 (closed 3) w26
step_26 F = (node_of w25 3, (refl, refl, refl), refl, inl (refl, λ i. refl), refl)

step_27 : (F : Functions) → Steps F w26 (ended 2) w27
step_27 F = (refl, refl, refl, ((λ h. refl), ((λ h. absurd (let no : false ≡ true = h in cc)), ((λ h. refl), ((λ h. refl), tt)))), refl)

updates_3 : (F : Functions) → Updates F w27 s3
updates_3 F = same F 0 (refl, refl, inl (refl, refl)) (same F 2 (refl, refl, inl (refl, refl)) (no_update))

settled_3 : IsSettled s3
settled_3 = settled_by s3 (record { stage = refl; states = refl; agrees = refl; filled = refl }, (record { stage = refl; states = refl; agrees = refl; filled = refl }, (record { stage = refl; states = refl; agrees = refl; filled = refl }, (record { stage = refl; states = refl; agrees = refl; filled = refl }, tt))))

step_28 : (F : Functions) → Steps F w27 (opened 3) w28
step_28 F = (refl, refl, refl, (s3, updates_3 F, settles settled_3 refl))

step_29 : (F : Functions) → Steps F w28 (claimed 2 0 2 0) w29
step_29 F = (node_of w28 2, (refl, refl, refl), (omega arith, tt), refl, (refl, tt), (get_claim (claim_at w28 2 0 (node_of w28 2)), refl, refl, refl))

step_30 : (F : Functions) → Steps F w29 (handed_in 2 0 2 0 (rows 1)) w30
step_30 F = (piece 2 0 2 0 2 (gives_last (at_place full_shape 2) (on_k how.Full)) (left_fields ∷ right_fields ∷ []) (((number 1 ∷ []) ∷ (number 3 ∷ []) ∷ []) ∷ ((number 4 ∷ text 120 ∷ []) ∷ (number 1 ∷ text 121 ∷ []) ∷ []) ∷ []), (0, omega arith, refl), refl, refl, refl, refl, refl, (good ((val.Null ∷ number 4 ∷ text 120 ∷ []) ∷ []), (refl, refl, refl, omega arith), refl, refl))

step_31 : (F : Functions) → Steps F w30 (pulled 3 0 2) w31
step_31 F = (node_of w30 3, (refl, refl, refl), refl, refl, (pipe 2 0 3 0 port.Ready port.Ready (Some ((number 1 ∷ number 1 ∷ text 121 ∷ []) ∷ []) ∷ Some ((number 3 ∷ val.Null ∷ val.Null ∷ []) ∷ []) ∷ Some ((val.Null ∷ number 4 ∷ text 120 ∷ []) ∷ []) ∷ []) 2 true false, ((val.Null ∷ number 4 ∷ text 120 ∷ []) ∷ []), (2, omega arith, refl), refl, refl, refl, refl, refl, refl))

ends_32 : (i : ℕ) → claim_at w31 2 i (node_of w31 2) ≡ None
ends_32 zero = refl
ends_32 (suc i) = ap (λ next. claim_of two_singly (node_of w31 2).node (schemas_for w31 (node_of w31 2)) (node_of w31 2).progress [] (inputs_done w31 2) (suc i) next) (no_next w31 2 (suc i) refl)

step_32 : (F : Functions) → Steps F w31 (closed 2) w32
step_32 F = (node_of w31 2, (refl, refl, refl), refl, inl (refl, ends_32), refl)

step_33 : (F : Functions) → Steps F w32 (closed 3) w33
step_33 F = (node_of w32 3, (refl, refl, refl), refl, inl (refl, λ i. refl), refl)

step_34 : (F : Functions) → Steps F w33 (ended 3) w34
step_34 F = (refl, refl, refl, ((λ h. absurd (let no : false ≡ true = h in cc)), ((λ h. absurd (let no : false ≡ true = h in cc)), ((λ h. refl), ((λ h. refl), tt)))), refl)

updates_4 : (F : Functions) → Updates F w34 s4
updates_4 F = turned F 2 (record (no_progress 2) { stage = spent; sent = 1; taken = (Some ((number 1 ∷ []) ∷ []) ∷ Some ((number 3 ∷ []) ∷ []) ∷ []) ∷ (Some ((number 4 ∷ text 120 ∷ []) ∷ []) ∷ Some ((number 1 ∷ text 121 ∷ []) ∷ []) ∷ []) ∷ [] }) (refl, refl, inl (refl, refl)) (same F 3 (refl, refl, inl (refl, refl)) (no_update))

settled_4 : IsSettled s4
settled_4 = settled_by s4 (record { stage = refl; states = refl; agrees = refl; filled = refl }, (record { stage = refl; states = refl; agrees = refl; filled = refl }, (record { stage = refl; states = refl; agrees = refl; filled = refl }, (record { stage = refl; states = refl; agrees = refl; filled = refl }, tt))))

step_35 : (F : Functions) → Steps F w34 (opened 4) w35
step_35 F = (refl, refl, refl, (s4, updates_4 F, settles settled_4 refl))

pub run : (F : Functions) → Replays F w0 full_journal w35
run F = (w1, step_1 F, (w2, step_2 F, (w3, step_3 F, (w4, step_4 F, (w5, step_5 F, (w6, step_6 F, (w7, step_7 F, (w8, step_8 F, (w9, step_9 F, (w10, step_10 F, (w11, step_11 F, (w12, step_12 F, (w13, step_13 F, (w14, step_14 F, (w15, step_15 F, (w16, step_16 F, (w17, step_17 F, (w18, step_18 F, (w19, step_19 F, (w20, step_20 F, (w21, step_21 F, (w22, step_22 F, (w23, step_23 F, (w24, step_24 F, (w25, step_25 F, (w26, step_26 F, (w27, step_27 F, (w28, step_28 F, (w29, step_29 F, (w30, step_30 F, (w31, step_31 F, (w32, step_32 F, (w33, step_33 F, (w34, step_34 F, (w35, step_35 F, refl)))))))))))))))))))))))))))))))))))

pub leaves : (F : Functions) → Leaves F full_shape two_singly full_journal ([] ∷ [] ∷ ([] ∷ [] ∷ []) ∷ ((((number 1 ∷ number 1 ∷ text 121 ∷ []) ∷ []) ∷ ((number 3 ∷ val.Null ∷ val.Null ∷ []) ∷ []) ∷ ((val.Null ∷ number 4 ∷ text 120 ∷ []) ∷ []) ∷ []) ∷ []) ∷ [])
leaves F = (w35, run F, refl)
