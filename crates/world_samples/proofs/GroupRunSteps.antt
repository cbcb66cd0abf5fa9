-- The worlds of that run, written out, and its steps.
use Rattle.std.proofs.Common.{◌≡◌, ℕ, Bool, true, false, List, [], ◌∷◌, Some, None, refl, ap, inl, inr, arith}
use Rattle.std.proofs.lemmas.List.Sorted.{IsPermutation-refl}
use Rattle.std.specs.Prelude.{nat_eq, take}
use Rattle.ps_frame.specs.Functions.{Functions}
use Rattle.ps_ports.specs.declared.port_state.PortState.TheVariants as port
use Rattle.ps_turns.specs.Claims.{claim_of}
use Rattle.ps_turns.specs.Progress.{giving, spent}
use Rattle.ps_turns.specs.Tasks.{Piece, gives_part, good, hands_on, keeps, partial, rows}
use Rattle.ps_world.specs.Claims.{claim_at}
use Rattle.ps_world.specs.Opening.{no_progress, opening}
use Rattle.ps_world.specs.Step.{Replays, Steps, settles}
use Rattle.ps_world.specs.Updates.{IsSettled, Updates, no_update}
use Rattle.ps_world.specs.World.{Node, Pipe, World, claimed, closed, ended, finished, handed_in, inputs_done, opened, pulled, running, schemas_for}
use Rattle.world_runs.proofs.Writing.{at_place, both_none, get_claim, no_next, piece, pipe, same, settled_by, the, turned}
use Rattle.world_runs.specs.Examples.{Leaves, number}
use Rattle.world_runs.specs.Nodes.{node_of}
use Rattle.world_samples.specs.GroupRun.{group_journal, counted, counts_schema, group_shape, in_two_lists, k_schema}

-- the world after so many records
abbrev at : (records phase : ℕ) → Bool → List Node → List Pipe → List Piece → World
at k phase is_open nodes pipes outs = record { options = in_two_lists; nodes = nodes; pipes = pipes; outs = outs; phase = phase; is_open = is_open; journal = take k group_journal; ending = running }

abbrev pub w0 : World
w0 = opening group_shape in_two_lists

abbrev pub s1 : World
s1 =
    at 0 0 false
    (the group_shape 0 (no_progress 0) false false ∷ the group_shape 1 (no_progress 1) false false ∷ the group_shape 2 (no_progress 1) false false ∷ [])
    (pipe 0 0 1 0 port.Ready port.Ready [] 0 false false ∷ pipe 1 0 2 0 port.Blocked port.Ready [] 0 false false ∷ [])
    []

abbrev pub w1 : World
w1 =
    at 1 1 true
    (the group_shape 0 (no_progress 0) true false ∷ the group_shape 1 (no_progress 1) true false ∷ the group_shape 2 (no_progress 1) false false ∷ [])
    (pipe 0 0 1 0 port.Ready port.Ready [] 0 true false ∷ pipe 1 0 2 0 port.Blocked port.Ready [] 0 false false ∷ [])
    []

abbrev pub w2 : World
w2 =
    at 2 1 true
    (the group_shape 0 (record (no_progress 0) { sent = 1 }) true false ∷ the group_shape 1 (no_progress 1) true false ∷ the group_shape 2 (no_progress 1) false false ∷ [])
    (pipe 0 0 1 0 port.Ready port.Ready (None ∷ []) 0 true false ∷ pipe 1 0 2 0 port.Blocked port.Ready [] 0 false false ∷ [])
    (piece 0 0 0 0 0 (hands_on) (k_schema ∷ []) (((number 1 ∷ []) ∷ (number 2 ∷ []) ∷ (number 1 ∷ []) ∷ []) ∷ []) ∷ [])

abbrev pub w3 : World
w3 =
    at 3 1 true
    (the group_shape 0 (record (no_progress 0) { sent = 1 }) true false ∷ the group_shape 1 (no_progress 1) true false ∷ the group_shape 2 (no_progress 1) false false ∷ [])
    (pipe 0 0 1 0 port.Ready port.Ready (Some ((number 1 ∷ []) ∷ (number 2 ∷ []) ∷ (number 1 ∷ []) ∷ []) ∷ []) 0 true false ∷ pipe 1 0 2 0 port.Blocked port.Ready [] 0 false false ∷ [])
    []

abbrev pub w4 : World
w4 =
    at 4 1 true
    (the group_shape 0 (record (no_progress 0) { sent = 1 }) true false ∷ the group_shape 1 (record (no_progress 1) { taken = (None ∷ []) ∷ [] }) true false ∷ the group_shape 2 (no_progress 1) false false ∷ [])
    (pipe 0 0 1 0 port.Ready port.Ready (Some ((number 1 ∷ []) ∷ (number 2 ∷ []) ∷ (number 1 ∷ []) ∷ []) ∷ []) 1 true false ∷ pipe 1 0 2 0 port.Blocked port.Ready [] 0 false false ∷ [])
    (piece 1 0 0 0 0 (keeps (at_place group_shape 1)) (k_schema ∷ []) (((number 1 ∷ []) ∷ (number 2 ∷ []) ∷ (number 1 ∷ []) ∷ []) ∷ []) ∷ [])

abbrev pub w5 : World
w5 =
    at 5 1 true
    (the group_shape 0 (record (no_progress 0) { sent = 1 }) true false ∷ the group_shape 1 (record (no_progress 1) { taken = (Some ((number 1 ∷ []) ∷ (number 2 ∷ []) ∷ (number 1 ∷ []) ∷ []) ∷ []) ∷ [] }) true false ∷ the group_shape 2 (no_progress 1) false false ∷ [])
    (pipe 0 0 1 0 port.Ready port.Ready (Some ((number 1 ∷ []) ∷ (number 2 ∷ []) ∷ (number 1 ∷ []) ∷ []) ∷ []) 1 true false ∷ pipe 1 0 2 0 port.Blocked port.Ready [] 0 false false ∷ [])
    []

abbrev pub w6 : World
w6 =
    at 6 1 true
    (the group_shape 0 (record (no_progress 0) { sent = 1 }) true true ∷ the group_shape 1 (record (no_progress 1) { taken = (Some ((number 1 ∷ []) ∷ (number 2 ∷ []) ∷ (number 1 ∷ []) ∷ []) ∷ []) ∷ [] }) true false ∷ the group_shape 2 (no_progress 1) false false ∷ [])
    (pipe 0 0 1 0 port.Ready port.Ready (Some ((number 1 ∷ []) ∷ (number 2 ∷ []) ∷ (number 1 ∷ []) ∷ []) ∷ []) 1 true true ∷ pipe 1 0 2 0 port.Blocked port.Ready [] 0 false false ∷ [])
    []

abbrev pub w7 : World
w7 =
    at 7 1 true
    (the group_shape 0 (record (no_progress 0) { sent = 1 }) true true ∷ the group_shape 1 (record (no_progress 1) { taken = (Some ((number 1 ∷ []) ∷ (number 2 ∷ []) ∷ (number 1 ∷ []) ∷ []) ∷ []) ∷ [] }) true true ∷ the group_shape 2 (no_progress 1) false false ∷ [])
    (pipe 0 0 1 0 port.Ready port.Ready (Some ((number 1 ∷ []) ∷ (number 2 ∷ []) ∷ (number 1 ∷ []) ∷ []) ∷ []) 1 true true ∷ pipe 1 0 2 0 port.Blocked port.Ready [] 0 false false ∷ [])
    []

abbrev pub w8 : World
w8 =
    at 8 1 false
    (the group_shape 0 (record (no_progress 0) { sent = 1 }) false false ∷ the group_shape 1 (record (no_progress 1) { taken = (Some ((number 1 ∷ []) ∷ (number 2 ∷ []) ∷ (number 1 ∷ []) ∷ []) ∷ []) ∷ [] }) false false ∷ the group_shape 2 (no_progress 1) false false ∷ [])
    (pipe 0 0 1 0 port.Ready port.Ready (Some ((number 1 ∷ []) ∷ (number 2 ∷ []) ∷ (number 1 ∷ []) ∷ []) ∷ []) 1 false false ∷ pipe 1 0 2 0 port.Blocked port.Ready [] 0 false false ∷ [])
    []

abbrev pub s2 : World
s2 =
    at 8 1 false
    (the group_shape 0 (record (no_progress 0) { sent = 1 }) false false ∷ the group_shape 1 (record (no_progress 1) { stage = giving; taken = (Some ((number 1 ∷ []) ∷ (number 2 ∷ []) ∷ (number 1 ∷ []) ∷ []) ∷ []) ∷ []; lists = ((number 1 ∷ []) ∷ []) ∷ ((number 2 ∷ []) ∷ []) ∷ [] }) false false ∷ the group_shape 2 (no_progress 1) false false ∷ [])
    (pipe 0 0 1 0 port.Done port.Done (Some ((number 1 ∷ []) ∷ (number 2 ∷ []) ∷ (number 1 ∷ []) ∷ []) ∷ []) 1 false false ∷ pipe 1 0 2 0 port.Ready port.Ready [] 0 false false ∷ [])
    []

abbrev pub w9 : World
w9 =
    at 9 2 true
    (the group_shape 0 (record (no_progress 0) { sent = 1 }) false false ∷ the group_shape 1 (record (no_progress 1) { stage = giving; taken = (Some ((number 1 ∷ []) ∷ (number 2 ∷ []) ∷ (number 1 ∷ []) ∷ []) ∷ []) ∷ []; lists = ((number 1 ∷ []) ∷ []) ∷ ((number 2 ∷ []) ∷ []) ∷ [] }) true false ∷ the group_shape 2 (no_progress 1) true false ∷ [])
    (pipe 0 0 1 0 port.Done port.Done (Some ((number 1 ∷ []) ∷ (number 2 ∷ []) ∷ (number 1 ∷ []) ∷ []) ∷ []) 1 false false ∷ pipe 1 0 2 0 port.Ready port.Ready [] 0 true false ∷ [])
    []

abbrev pub w10 : World
w10 =
    at 10 2 true
    (the group_shape 0 (record (no_progress 0) { sent = 1 }) false false ∷ the group_shape 1 (record (no_progress 1) { stage = giving; sent = 1; taken = (Some ((number 1 ∷ []) ∷ (number 2 ∷ []) ∷ (number 1 ∷ []) ∷ []) ∷ []) ∷ []; lists = ((number 1 ∷ []) ∷ []) ∷ ((number 2 ∷ []) ∷ []) ∷ [] }) true false ∷ the group_shape 2 (no_progress 1) true false ∷ [])
    (pipe 0 0 1 0 port.Done port.Done (Some ((number 1 ∷ []) ∷ (number 2 ∷ []) ∷ (number 1 ∷ []) ∷ []) ∷ []) 1 false false ∷ pipe 1 0 2 0 port.Ready port.Ready (None ∷ []) 0 true false ∷ [])
    (piece 1 0 0 0 0 (gives_part (at_place group_shape 1) ((number 1 ∷ []) ∷ [])) (k_schema ∷ []) (((number 1 ∷ []) ∷ (number 2 ∷ []) ∷ (number 1 ∷ []) ∷ []) ∷ []) ∷ [])

abbrev pub w11 : World
w11 =
    at 11 2 true
    (the group_shape 0 (record (no_progress 0) { sent = 1 }) false false ∷ the group_shape 1 (record (no_progress 1) { stage = giving; sent = 1; taken = (Some ((number 1 ∷ []) ∷ (number 2 ∷ []) ∷ (number 1 ∷ []) ∷ []) ∷ []) ∷ []; lists = ((number 1 ∷ []) ∷ []) ∷ ((number 2 ∷ []) ∷ []) ∷ [] }) true false ∷ the group_shape 2 (no_progress 1) true false ∷ [])
    (pipe 0 0 1 0 port.Done port.Done (Some ((number 1 ∷ []) ∷ (number 2 ∷ []) ∷ (number 1 ∷ []) ∷ []) ∷ []) 1 false false ∷ pipe 1 0 2 0 port.Ready port.Ready (Some ((counted 1 2) ∷ []) ∷ []) 0 true false ∷ [])
    []

abbrev pub w12 : World
w12 =
    at 12 2 true
    (the group_shape 0 (record (no_progress 0) { sent = 1 }) false false ∷ the group_shape 1 (record (no_progress 1) { stage = giving; sent = 2; taken = (Some ((number 1 ∷ []) ∷ (number 2 ∷ []) ∷ (number 1 ∷ []) ∷ []) ∷ []) ∷ []; lists = ((number 1 ∷ []) ∷ []) ∷ ((number 2 ∷ []) ∷ []) ∷ [] }) true false ∷ the group_shape 2 (no_progress 1) true false ∷ [])
    (pipe 0 0 1 0 port.Done port.Done (Some ((number 1 ∷ []) ∷ (number 2 ∷ []) ∷ (number 1 ∷ []) ∷ []) ∷ []) 1 false false ∷ pipe 1 0 2 0 port.Ready port.Ready (Some ((counted 1 2) ∷ []) ∷ None ∷ []) 0 true false ∷ [])
    (piece 1 0 1 0 1 (gives_part (at_place group_shape 1) ((number 2 ∷ []) ∷ [])) (k_schema ∷ []) (((number 1 ∷ []) ∷ (number 2 ∷ []) ∷ (number 1 ∷ []) ∷ []) ∷ []) ∷ [])

abbrev pub w13 : World
w13 =
    at 13 2 true
    (the group_shape 0 (record (no_progress 0) { sent = 1 }) false false ∷ the group_shape 1 (record (no_progress 1) { stage = giving; sent = 2; taken = (Some ((number 1 ∷ []) ∷ (number 2 ∷ []) ∷ (number 1 ∷ []) ∷ []) ∷ []) ∷ []; lists = ((number 1 ∷ []) ∷ []) ∷ ((number 2 ∷ []) ∷ []) ∷ [] }) true false ∷ the group_shape 2 (no_progress 1) true false ∷ [])
    (pipe 0 0 1 0 port.Done port.Done (Some ((number 1 ∷ []) ∷ (number 2 ∷ []) ∷ (number 1 ∷ []) ∷ []) ∷ []) 1 false false ∷ pipe 1 0 2 0 port.Ready port.Ready (Some ((counted 1 2) ∷ []) ∷ Some ((counted 2 1) ∷ []) ∷ []) 0 true false ∷ [])
    []

abbrev pub w14 : World
w14 =
    at 14 2 true
    (the group_shape 0 (record (no_progress 0) { sent = 1 }) false false ∷ the group_shape 1 (record (no_progress 1) { stage = giving; sent = 2; taken = (Some ((number 1 ∷ []) ∷ (number 2 ∷ []) ∷ (number 1 ∷ []) ∷ []) ∷ []) ∷ []; lists = ((number 1 ∷ []) ∷ []) ∷ ((number 2 ∷ []) ∷ []) ∷ [] }) true false ∷ the group_shape 2 (record (no_progress 1) { stores = (((counted 1 2) ∷ []) ∷ []) ∷ [] }) true false ∷ [])
    (pipe 0 0 1 0 port.Done port.Done (Some ((number 1 ∷ []) ∷ (number 2 ∷ []) ∷ (number 1 ∷ []) ∷ []) ∷ []) 1 false false ∷ pipe 1 0 2 0 port.Ready port.Ready (Some ((counted 1 2) ∷ []) ∷ Some ((counted 2 1) ∷ []) ∷ []) 1 true false ∷ [])
    []

abbrev pub w15 : World
w15 =
    at 15 2 true
    (the group_shape 0 (record (no_progress 0) { sent = 1 }) false false ∷ the group_shape 1 (record (no_progress 1) { stage = giving; sent = 2; taken = (Some ((number 1 ∷ []) ∷ (number 2 ∷ []) ∷ (number 1 ∷ []) ∷ []) ∷ []) ∷ []; lists = ((number 1 ∷ []) ∷ []) ∷ ((number 2 ∷ []) ∷ []) ∷ [] }) true false ∷ the group_shape 2 (record (no_progress 1) { stores = (((counted 1 2) ∷ []) ∷ ((counted 2 1) ∷ []) ∷ []) ∷ [] }) true false ∷ [])
    (pipe 0 0 1 0 port.Done port.Done (Some ((number 1 ∷ []) ∷ (number 2 ∷ []) ∷ (number 1 ∷ []) ∷ []) ∷ []) 1 false false ∷ pipe 1 0 2 0 port.Ready port.Ready (Some ((counted 1 2) ∷ []) ∷ Some ((counted 2 1) ∷ []) ∷ []) 2 true false ∷ [])
    []

abbrev pub w16 : World
w16 =
    at 16 2 true
    (the group_shape 0 (record (no_progress 0) { sent = 1 }) false false ∷ the group_shape 1 (record (no_progress 1) { stage = giving; sent = 2; taken = (Some ((number 1 ∷ []) ∷ (number 2 ∷ []) ∷ (number 1 ∷ []) ∷ []) ∷ []) ∷ []; lists = ((number 1 ∷ []) ∷ []) ∷ ((number 2 ∷ []) ∷ []) ∷ [] }) true true ∷ the group_shape 2 (record (no_progress 1) { stores = (((counted 1 2) ∷ []) ∷ ((counted 2 1) ∷ []) ∷ []) ∷ [] }) true false ∷ [])
    (pipe 0 0 1 0 port.Done port.Done (Some ((number 1 ∷ []) ∷ (number 2 ∷ []) ∷ (number 1 ∷ []) ∷ []) ∷ []) 1 false false ∷ pipe 1 0 2 0 port.Ready port.Ready (Some ((counted 1 2) ∷ []) ∷ Some ((counted 2 1) ∷ []) ∷ []) 2 true true ∷ [])
    []

abbrev pub w17 : World
w17 =
    at 17 2 true
    (the group_shape 0 (record (no_progress 0) { sent = 1 }) false false ∷ the group_shape 1 (record (no_progress 1) { stage = giving; sent = 2; taken = (Some ((number 1 ∷ []) ∷ (number 2 ∷ []) ∷ (number 1 ∷ []) ∷ []) ∷ []) ∷ []; lists = ((number 1 ∷ []) ∷ []) ∷ ((number 2 ∷ []) ∷ []) ∷ [] }) true true ∷ the group_shape 2 (record (no_progress 1) { stores = (((counted 1 2) ∷ []) ∷ ((counted 2 1) ∷ []) ∷ []) ∷ [] }) true true ∷ [])
    (pipe 0 0 1 0 port.Done port.Done (Some ((number 1 ∷ []) ∷ (number 2 ∷ []) ∷ (number 1 ∷ []) ∷ []) ∷ []) 1 false false ∷ pipe 1 0 2 0 port.Ready port.Ready (Some ((counted 1 2) ∷ []) ∷ Some ((counted 2 1) ∷ []) ∷ []) 2 true true ∷ [])
    []

abbrev pub w18 : World
w18 =
    at 18 2 false
    (the group_shape 0 (record (no_progress 0) { sent = 1 }) false false ∷ the group_shape 1 (record (no_progress 1) { stage = giving; sent = 2; taken = (Some ((number 1 ∷ []) ∷ (number 2 ∷ []) ∷ (number 1 ∷ []) ∷ []) ∷ []) ∷ []; lists = ((number 1 ∷ []) ∷ []) ∷ ((number 2 ∷ []) ∷ []) ∷ [] }) false false ∷ the group_shape 2 (record (no_progress 1) { stores = (((counted 1 2) ∷ []) ∷ ((counted 2 1) ∷ []) ∷ []) ∷ [] }) false false ∷ [])
    (pipe 0 0 1 0 port.Done port.Done (Some ((number 1 ∷ []) ∷ (number 2 ∷ []) ∷ (number 1 ∷ []) ∷ []) ∷ []) 1 false false ∷ pipe 1 0 2 0 port.Ready port.Ready (Some ((counted 1 2) ∷ []) ∷ Some ((counted 2 1) ∷ []) ∷ []) 2 false false ∷ [])
    []

abbrev pub s3 : World
s3 =
    at 18 2 false
    (the group_shape 0 (record (no_progress 0) { sent = 1 }) false false ∷ the group_shape 1 (record (no_progress 1) { stage = spent; sent = 2; taken = (Some ((number 1 ∷ []) ∷ (number 2 ∷ []) ∷ (number 1 ∷ []) ∷ []) ∷ []) ∷ []; lists = ((number 1 ∷ []) ∷ []) ∷ ((number 2 ∷ []) ∷ []) ∷ [] }) false false ∷ the group_shape 2 (record (no_progress 1) { stores = (((counted 1 2) ∷ []) ∷ ((counted 2 1) ∷ []) ∷ []) ∷ [] }) false false ∷ [])
    (pipe 0 0 1 0 port.Done port.Done (Some ((number 1 ∷ []) ∷ (number 2 ∷ []) ∷ (number 1 ∷ []) ∷ []) ∷ []) 1 false false ∷ pipe 1 0 2 0 port.Done port.Done (Some ((counted 1 2) ∷ []) ∷ Some ((counted 2 1) ∷ []) ∷ []) 2 false false ∷ [])
    []

abbrev pub w19 : World
w19 =
    record (at 19 3 false
    (the group_shape 0 (record (no_progress 0) { sent = 1 }) false false ∷ the group_shape 1 (record (no_progress 1) { stage = spent; sent = 2; taken = (Some ((number 1 ∷ []) ∷ (number 2 ∷ []) ∷ (number 1 ∷ []) ∷ []) ∷ []) ∷ []; lists = ((number 1 ∷ []) ∷ []) ∷ ((number 2 ∷ []) ∷ []) ∷ [] }) false false ∷ the group_shape 2 (record (no_progress 1) { stores = (((counted 1 2) ∷ []) ∷ ((counted 2 1) ∷ []) ∷ []) ∷ [] }) false false ∷ [])
    (pipe 0 0 1 0 port.Done port.Done (Some ((number 1 ∷ []) ∷ (number 2 ∷ []) ∷ (number 1 ∷ []) ∷ []) ∷ []) 1 false false ∷ pipe 1 0 2 0 port.Done port.Done (Some ((counted 1 2) ∷ []) ∷ Some ((counted 2 1) ∷ []) ∷ []) 2 false false ∷ [])
    []) { ending = finished }

updates_1 : (F : Functions) → Updates F w0 s1
updates_1 F = same F 2 (refl, refl, inl (refl, refl)) (same F 1 (refl, refl, inl (refl, refl)) (same F 0 (refl, refl, inl (refl, refl)) (no_update)))

settled_1 : IsSettled s1
settled_1 = settled_by s1 (record { stage = refl; states = refl; agrees = refl; filled = refl }, (record { stage = refl; states = refl; agrees = refl; filled = refl }, (record { stage = refl; states = refl; agrees = refl; filled = refl }, tt)))

step_1 : (F : Functions) → Steps F w0 (opened 1) w1
step_1 F = (refl, refl, refl, (s1, updates_1 F, settles settled_1 refl))

step_2 : (F : Functions) → Steps F w1 (claimed 0 0 0 0) w2
step_2 F = (node_of w1 0, (refl, refl, refl), (omega arith, tt), refl, (refl, tt), (get_claim (claim_at w1 0 0 (node_of w1 0)), refl, refl, refl))

step_3 : (F : Functions) → Steps F w2 (handed_in 0 0 0 0 (rows 3)) w3
step_3 F = (piece 0 0 0 0 0 (hands_on) (k_schema ∷ []) (((number 1 ∷ []) ∷ (number 2 ∷ []) ∷ (number 1 ∷ []) ∷ []) ∷ []), (0, omega arith, refl), refl, refl, refl, refl, refl, (good ((number 1 ∷ []) ∷ (number 2 ∷ []) ∷ (number 1 ∷ []) ∷ []), refl, refl, refl))

step_4 : (F : Functions) → Steps F w3 (claimed 1 0 0 0) w4
step_4 F = (node_of w3 1, (refl, refl, refl), (omega arith, tt), refl, tt, (get_claim (claim_at w3 1 0 (node_of w3 1)), refl, refl, refl))

step_5 : (F : Functions) → Steps F w4 (handed_in 1 0 0 0 (rows 2)) w5
step_5 F = (piece 1 0 0 0 0 (keeps (at_place group_shape 1)) (k_schema ∷ []) (((number 1 ∷ []) ∷ (number 2 ∷ []) ∷ (number 1 ∷ []) ∷ []) ∷ []), (0, omega arith, refl), refl, refl, refl, refl, refl, (partial 2, (((counted 1 2) ∷ (counted 2 1) ∷ []), ((record { schema = counts_schema; rows = ((counted 1 2) ∷ (counted 2 1) ∷ []); broken = [] }), ((record { schema = counts_schema; rows = ((counted 1 2) ∷ (counted 2 1) ∷ []); broken = [] }), inl (_, IsPermutation-refl _, refl), refl), refl, refl, omega arith), refl), refl, refl))

step_6 : (F : Functions) → Steps F w5 (closed 0) w6
step_6 F = (node_of w5 0, (refl, refl, refl), refl, inl (refl, λ i. both_none (nat_eq i 0)), refl)

step_7 : (F : Functions) → Steps F w6 (closed 1) w7
step_7 F = (node_of w6 1, (refl, refl, refl), refl, inl (refl, λ i. ap (λ next. claim_of in_two_lists (node_of w6 1).node (schemas_for w6 (node_of w6 1)) (node_of w6 1).progress [] (inputs_done w6 1) i next) (no_next w6 1 i refl)), refl)

step_8 : (F : Functions) → Steps F w7 (ended 1) w8
step_8 F = (refl, refl, refl, ((λ h. refl), ((λ h. refl), ((λ h. absurd (let no : false ≡ true = h in cc)), tt))), refl)

updates_2 : (F : Functions) → Updates F w8 s2
updates_2 F = same F 0 (refl, refl, inl (refl, refl)) (turned F 1 (record (no_progress 1) { stage = giving; taken = (Some ((number 1 ∷ []) ∷ (number 2 ∷ []) ∷ (number 1 ∷ []) ∷ []) ∷ []) ∷ []; lists = ((number 1 ∷ []) ∷ []) ∷ ((number 2 ∷ []) ∷ []) ∷ [] }) (refl, refl, inr (refl, record (no_progress 1) { taken = (Some ((number 1 ∷ []) ∷ (number 2 ∷ []) ∷ (number 1 ∷ []) ∷ []) ∷ []) ∷ []; lists = ((number 1 ∷ []) ∷ []) ∷ ((number 2 ∷ []) ∷ []) ∷ [] }, ((((number 1 ∷ []) ∷ []) ∷ ((number 2 ∷ []) ∷ []) ∷ []), record { number = refl; each_once = IsPermutation-refl ((number 1 ∷ []) ∷ (number 2 ∷ []) ∷ []) }, refl), refl)) (no_update))

settled_2 : IsSettled s2
settled_2 = settled_by s2 (record { stage = refl; states = refl; agrees = refl; filled = refl }, (record { stage = refl; states = refl; agrees = refl; filled = refl }, (record { stage = refl; states = refl; agrees = refl; filled = refl }, tt)))

step_9 : (F : Functions) → Steps F w8 (opened 2) w9
step_9 F = (refl, refl, refl, (s2, updates_2 F, settles settled_2 refl))

step_10 : (F : Functions) → Steps F w9 (claimed 1 0 0 0) w10
step_10 F = (node_of w9 1, (refl, refl, refl), (omega arith, tt), refl, (refl, tt), (get_claim (claim_at w9 1 0 (node_of w9 1)), refl, refl, refl))

step_11 : (F : Functions) → Steps F w10 (handed_in 1 0 0 0 (rows 1)) w11
step_11 F = (piece 1 0 0 0 0 (gives_part (at_place group_shape 1) ((number 1 ∷ []) ∷ [])) (k_schema ∷ []) (((number 1 ∷ []) ∷ (number 2 ∷ []) ∷ (number 1 ∷ []) ∷ []) ∷ []), (0, omega arith, refl), refl, refl, refl, refl, refl, (good ((counted 1 2) ∷ []), ((record { schema = counts_schema; rows = ((counted 1 2) ∷ []); broken = [] }), ((record { schema = counts_schema; rows = ((counted 1 2) ∷ []); broken = [] }), inl (_, IsPermutation-refl _, refl), refl), refl, refl, omega arith), refl, refl))

step_12 : (F : Functions) → Steps F w11 (claimed 1 0 1 0) w12
step_12 F = (node_of w11 1, (refl, refl, refl), (omega arith, tt), refl, (refl, tt), (get_claim (claim_at w11 1 0 (node_of w11 1)), refl, refl, refl))

step_13 : (F : Functions) → Steps F w12 (handed_in 1 0 1 0 (rows 1)) w13
step_13 F = (piece 1 0 1 0 1 (gives_part (at_place group_shape 1) ((number 2 ∷ []) ∷ [])) (k_schema ∷ []) (((number 1 ∷ []) ∷ (number 2 ∷ []) ∷ (number 1 ∷ []) ∷ []) ∷ []), (0, omega arith, refl), refl, refl, refl, refl, refl, (good ((counted 2 1) ∷ []), ((record { schema = counts_schema; rows = ((counted 2 1) ∷ []); broken = [] }), ((record { schema = counts_schema; rows = ((counted 2 1) ∷ []); broken = [] }), inl (_, IsPermutation-refl _, refl), refl), refl, refl, omega arith), refl, refl))

step_14 : (F : Functions) → Steps F w13 (pulled 2 0 0) w14
step_14 F = (node_of w13 2, (refl, refl, refl), refl, refl, (pipe 1 0 2 0 port.Ready port.Ready (Some ((counted 1 2) ∷ []) ∷ Some ((counted 2 1) ∷ []) ∷ []) 0 true false, ((counted 1 2) ∷ []), (1, omega arith, refl), refl, refl, refl, refl, refl, refl))

step_15 : (F : Functions) → Steps F w14 (pulled 2 0 1) w15
step_15 F = (node_of w14 2, (refl, refl, refl), refl, refl, (pipe 1 0 2 0 port.Ready port.Ready (Some ((counted 1 2) ∷ []) ∷ Some ((counted 2 1) ∷ []) ∷ []) 1 true false, ((counted 2 1) ∷ []), (1, omega arith, refl), refl, refl, refl, refl, refl, refl))

step_16 : (F : Functions) → Steps F w15 (closed 1) w16
step_16 F = (node_of w15 1, (refl, refl, refl), refl, inl (refl, λ i. both_none (nat_eq i 0)), refl)

step_17 : (F : Functions) → Steps F w16 (closed 2) w17
step_17 F = (node_of w16 2, (refl, refl, refl), refl, inl (refl, λ i. refl), refl)

step_18 : (F : Functions) → Steps F w17 (ended 2) w18
step_18 F = (refl, refl, refl, ((λ h. absurd (let no : false ≡ true = h in cc)), ((λ h. refl), ((λ h. refl), tt))), refl)

updates_3 : (F : Functions) → Updates F w18 s3
updates_3 F = turned F 1 (record (no_progress 1) { stage = spent; sent = 2; taken = (Some ((number 1 ∷ []) ∷ (number 2 ∷ []) ∷ (number 1 ∷ []) ∷ []) ∷ []) ∷ []; lists = ((number 1 ∷ []) ∷ []) ∷ ((number 2 ∷ []) ∷ []) ∷ [] }) (refl, refl, inl (refl, refl)) (same F 2 (refl, refl, inl (refl, refl)) (no_update))

settled_3 : IsSettled s3
settled_3 = settled_by s3 (record { stage = refl; states = refl; agrees = refl; filled = refl }, (record { stage = refl; states = refl; agrees = refl; filled = refl }, (record { stage = refl; states = refl; agrees = refl; filled = refl }, tt)))

step_19 : (F : Functions) → Steps F w18 (opened 3) w19
step_19 F = (refl, refl, refl, (s3, updates_3 F, settles settled_3 refl))

pub run : (F : Functions) → Replays F w0 group_journal w19
run F = (w1, step_1 F, (w2, step_2 F, (w3, step_3 F, (w4, step_4 F, (w5, step_5 F, (w6, step_6 F, (w7, step_7 F, (w8, step_8 F, (w9, step_9 F, (w10, step_10 F, (w11, step_11 F, (w12, step_12 F, (w13, step_13 F, (w14, step_14 F, (w15, step_15 F, (w16, step_16 F, (w17, step_17 F, (w18, step_18 F, (w19, step_19 F, refl)))))))))))))))))))

pub leaves : (F : Functions) → Leaves F group_shape in_two_lists group_journal ([] ∷ ([] ∷ []) ∷ ((((counted 1 2) ∷ []) ∷ ((counted 2 1) ∷ []) ∷ []) ∷ []) ∷ [])
leaves F = (w19, run F, refl)
