-- The worlds of that run, written out, and its steps.
use Rattle.std.proofs.Common.{◌≡◌, ℕ, Bool, true, false, List, [], ◌∷◌, Some, None, refl, ap, inl, inr, arith}
use Rattle.std.specs.Prelude.{nat_eq, take}
use Rattle.ps_frame.specs.Functions.{Functions}
use Rattle.ps_ports.specs.declared.port_state.PortState.TheVariants as port
use Rattle.ps_turns.specs.Progress.{Progress, giving, spent}
use Rattle.ps_turns.specs.Tasks.{Piece, good, hands_on, rows}
use Rattle.ps_world.specs.Claims.{claim_at}
use Rattle.ps_world.specs.Opening.{no_progress, opening}
use Rattle.ps_world.specs.Step.{Replays, Steps, settles}
use Rattle.ps_world.specs.Updates.{IsSettled, Updates, no_update}
use Rattle.ps_world.specs.World.{Node, Pipe, World, claimed, closed, ended, finished, handed_in, opened, pulled, running}
use Rattle.world_runs.proofs.Writing.{at_place, both_none, get_claim, piece, pipe, same, settled_by, the, turned}
use Rattle.world_runs.specs.Examples.{Leaves, number, one_worker, a_schema}
use Rattle.world_runs.specs.Nodes.{node_of}
use Rattle.world_samples.specs.MapRun.{map_journal, map_shape, turned_round}
use Rattle.std.proofs.Common.{sym, ◌∙◌}
use Rattle.std.specs.Prelude.{if◌then◌else◌}
use Rattle.ps_frame.specs.Tables.{whole}
use Rattle.ps_meaning.specs.Cases.{answer_or_fault, if_whole, out_schema, stream_table, user_table}
use Rattle.ps_meaning.specs.Steps.{user}
use Rattle.ps_turns.specs.Results.{IsMade}
use Rattle.ps_turns.specs.Tables.{whole_tables}
use Rattle.ps_world.specs.Pipes.{with_progress}
use Rattle.ps_world.specs.Updates.{FillsAt, one_fill}
use Rattle.world_runs.specs.Examples.{given}

-- the world after so many records
abbrev at : (records phase : ℕ) → Bool → List Node → List Pipe → List Piece → World
at k phase is_open nodes pipes outs = record { options = one_worker; nodes = nodes; pipes = pipes; outs = outs; phase = phase; is_open = is_open; journal = take k map_journal; ending = running }

abbrev pub w0 : World
w0 = opening map_shape one_worker

abbrev pub s1 : World
s1 =
    at 0 0 false
    (the map_shape 0 (no_progress 0) false false ∷ the map_shape 1 (no_progress 1) false false ∷ the map_shape 2 (no_progress 1) false false ∷ [])
    (pipe 0 0 1 0 port.Ready port.Ready [] 0 false false ∷ pipe 1 0 2 0 port.Blocked port.Ready [] 0 false false ∷ [])
    []

abbrev pub w1 : World
w1 =
    at 1 1 true
    (the map_shape 0 (no_progress 0) true false ∷ the map_shape 1 (no_progress 1) true false ∷ the map_shape 2 (no_progress 1) false false ∷ [])
    (pipe 0 0 1 0 port.Ready port.Ready [] 0 true false ∷ pipe 1 0 2 0 port.Blocked port.Ready [] 0 false false ∷ [])
    []

abbrev pub w2 : World
w2 =
    at 2 1 true
    (the map_shape 0 (record (no_progress 0) { sent = 1 }) true false ∷ the map_shape 1 (no_progress 1) true false ∷ the map_shape 2 (no_progress 1) false false ∷ [])
    (pipe 0 0 1 0 port.Ready port.Ready (None ∷ []) 0 true false ∷ pipe 1 0 2 0 port.Blocked port.Ready [] 0 false false ∷ [])
    (piece 0 0 0 0 0 (hands_on) (a_schema ∷ []) (((number 1 ∷ []) ∷ (number 2 ∷ []) ∷ (number 3 ∷ []) ∷ []) ∷ []) ∷ [])

abbrev pub w3 : World
w3 =
    at 3 1 true
    (the map_shape 0 (record (no_progress 0) { sent = 1 }) true false ∷ the map_shape 1 (no_progress 1) true false ∷ the map_shape 2 (no_progress 1) false false ∷ [])
    (pipe 0 0 1 0 port.Ready port.Ready (Some ((number 1 ∷ []) ∷ (number 2 ∷ []) ∷ (number 3 ∷ []) ∷ []) ∷ []) 0 true false ∷ pipe 1 0 2 0 port.Blocked port.Ready [] 0 false false ∷ [])
    []

abbrev pub w4 : World
w4 =
    at 4 1 true
    (the map_shape 0 (record (no_progress 0) { sent = 1 }) true false ∷ the map_shape 1 (record (no_progress 1) { stores = (((number 1 ∷ []) ∷ (number 2 ∷ []) ∷ (number 3 ∷ []) ∷ []) ∷ []) ∷ [] }) true false ∷ the map_shape 2 (no_progress 1) false false ∷ [])
    (pipe 0 0 1 0 port.Ready port.Ready (Some ((number 1 ∷ []) ∷ (number 2 ∷ []) ∷ (number 3 ∷ []) ∷ []) ∷ []) 1 true false ∷ pipe 1 0 2 0 port.Blocked port.Ready [] 0 false false ∷ [])
    []

abbrev pub w5 : World
w5 =
    at 5 1 true
    (the map_shape 0 (record (no_progress 0) { sent = 1 }) true true ∷ the map_shape 1 (record (no_progress 1) { stores = (((number 1 ∷ []) ∷ (number 2 ∷ []) ∷ (number 3 ∷ []) ∷ []) ∷ []) ∷ [] }) true false ∷ the map_shape 2 (no_progress 1) false false ∷ [])
    (pipe 0 0 1 0 port.Ready port.Ready (Some ((number 1 ∷ []) ∷ (number 2 ∷ []) ∷ (number 3 ∷ []) ∷ []) ∷ []) 1 true true ∷ pipe 1 0 2 0 port.Blocked port.Ready [] 0 false false ∷ [])
    []

abbrev pub w6 : World
w6 =
    at 6 1 true
    (the map_shape 0 (record (no_progress 0) { sent = 1 }) true true ∷ the map_shape 1 (record (no_progress 1) { stores = (((number 1 ∷ []) ∷ (number 2 ∷ []) ∷ (number 3 ∷ []) ∷ []) ∷ []) ∷ [] }) true true ∷ the map_shape 2 (no_progress 1) false false ∷ [])
    (pipe 0 0 1 0 port.Ready port.Ready (Some ((number 1 ∷ []) ∷ (number 2 ∷ []) ∷ (number 3 ∷ []) ∷ []) ∷ []) 1 true true ∷ pipe 1 0 2 0 port.Blocked port.Ready [] 0 false false ∷ [])
    []

abbrev pub w7 : World
w7 =
    at 7 1 false
    (the map_shape 0 (record (no_progress 0) { sent = 1 }) false false ∷ the map_shape 1 (record (no_progress 1) { stores = (((number 1 ∷ []) ∷ (number 2 ∷ []) ∷ (number 3 ∷ []) ∷ []) ∷ []) ∷ [] }) false false ∷ the map_shape 2 (no_progress 1) false false ∷ [])
    (pipe 0 0 1 0 port.Ready port.Ready (Some ((number 1 ∷ []) ∷ (number 2 ∷ []) ∷ (number 3 ∷ []) ∷ []) ∷ []) 1 false false ∷ pipe 1 0 2 0 port.Blocked port.Ready [] 0 false false ∷ [])
    []

abbrev pub s2 : World
s2 =
    at 7 1 false
    (the map_shape 0 (record (no_progress 0) { sent = 1 }) false false ∷ the map_shape 1 (record (no_progress 1) { stage = giving; stores = (((number 1 ∷ []) ∷ (number 2 ∷ []) ∷ (number 3 ∷ []) ∷ []) ∷ []) ∷ []; made = Some ((number 3 ∷ []) ∷ (number 2 ∷ []) ∷ (number 1 ∷ []) ∷ []) }) false false ∷ the map_shape 2 (no_progress 1) false false ∷ [])
    (pipe 0 0 1 0 port.Done port.Done (Some ((number 1 ∷ []) ∷ (number 2 ∷ []) ∷ (number 3 ∷ []) ∷ []) ∷ []) 1 false false ∷ pipe 1 0 2 0 port.Ready port.Ready [] 0 false false ∷ [])
    []

abbrev pub w8 : World
w8 =
    at 8 2 true
    (the map_shape 0 (record (no_progress 0) { sent = 1 }) false false ∷ the map_shape 1 (record (no_progress 1) { stage = giving; stores = (((number 1 ∷ []) ∷ (number 2 ∷ []) ∷ (number 3 ∷ []) ∷ []) ∷ []) ∷ []; made = Some ((number 3 ∷ []) ∷ (number 2 ∷ []) ∷ (number 1 ∷ []) ∷ []) }) true false ∷ the map_shape 2 (no_progress 1) true false ∷ [])
    (pipe 0 0 1 0 port.Done port.Done (Some ((number 1 ∷ []) ∷ (number 2 ∷ []) ∷ (number 3 ∷ []) ∷ []) ∷ []) 1 false false ∷ pipe 1 0 2 0 port.Ready port.Ready [] 0 true false ∷ [])
    []

abbrev pub w9 : World
w9 =
    at 9 2 true
    (the map_shape 0 (record (no_progress 0) { sent = 1 }) false false ∷ the map_shape 1 (record (no_progress 1) { stage = giving; sent = 1; stores = (((number 1 ∷ []) ∷ (number 2 ∷ []) ∷ (number 3 ∷ []) ∷ []) ∷ []) ∷ []; made = Some ((number 3 ∷ []) ∷ (number 2 ∷ []) ∷ (number 1 ∷ []) ∷ []) }) true false ∷ the map_shape 2 (no_progress 1) true false ∷ [])
    (pipe 0 0 1 0 port.Done port.Done (Some ((number 1 ∷ []) ∷ (number 2 ∷ []) ∷ (number 3 ∷ []) ∷ []) ∷ []) 1 false false ∷ pipe 1 0 2 0 port.Ready port.Ready (None ∷ []) 0 true false ∷ [])
    (piece 1 0 0 0 0 (hands_on) (a_schema ∷ []) (((number 3 ∷ []) ∷ (number 2 ∷ []) ∷ (number 1 ∷ []) ∷ []) ∷ []) ∷ [])

abbrev pub w10 : World
w10 =
    at 10 2 true
    (the map_shape 0 (record (no_progress 0) { sent = 1 }) false false ∷ the map_shape 1 (record (no_progress 1) { stage = giving; sent = 1; stores = (((number 1 ∷ []) ∷ (number 2 ∷ []) ∷ (number 3 ∷ []) ∷ []) ∷ []) ∷ []; made = Some ((number 3 ∷ []) ∷ (number 2 ∷ []) ∷ (number 1 ∷ []) ∷ []) }) true false ∷ the map_shape 2 (no_progress 1) true false ∷ [])
    (pipe 0 0 1 0 port.Done port.Done (Some ((number 1 ∷ []) ∷ (number 2 ∷ []) ∷ (number 3 ∷ []) ∷ []) ∷ []) 1 false false ∷ pipe 1 0 2 0 port.Ready port.Ready (Some ((number 3 ∷ []) ∷ (number 2 ∷ []) ∷ (number 1 ∷ []) ∷ []) ∷ []) 0 true false ∷ [])
    []

abbrev pub w11 : World
w11 =
    at 11 2 true
    (the map_shape 0 (record (no_progress 0) { sent = 1 }) false false ∷ the map_shape 1 (record (no_progress 1) { stage = giving; sent = 1; stores = (((number 1 ∷ []) ∷ (number 2 ∷ []) ∷ (number 3 ∷ []) ∷ []) ∷ []) ∷ []; made = Some ((number 3 ∷ []) ∷ (number 2 ∷ []) ∷ (number 1 ∷ []) ∷ []) }) true false ∷ the map_shape 2 (record (no_progress 1) { stores = (((number 3 ∷ []) ∷ (number 2 ∷ []) ∷ (number 1 ∷ []) ∷ []) ∷ []) ∷ [] }) true false ∷ [])
    (pipe 0 0 1 0 port.Done port.Done (Some ((number 1 ∷ []) ∷ (number 2 ∷ []) ∷ (number 3 ∷ []) ∷ []) ∷ []) 1 false false ∷ pipe 1 0 2 0 port.Ready port.Ready (Some ((number 3 ∷ []) ∷ (number 2 ∷ []) ∷ (number 1 ∷ []) ∷ []) ∷ []) 1 true false ∷ [])
    []

abbrev pub w12 : World
w12 =
    at 12 2 true
    (the map_shape 0 (record (no_progress 0) { sent = 1 }) false false ∷ the map_shape 1 (record (no_progress 1) { stage = giving; sent = 1; stores = (((number 1 ∷ []) ∷ (number 2 ∷ []) ∷ (number 3 ∷ []) ∷ []) ∷ []) ∷ []; made = Some ((number 3 ∷ []) ∷ (number 2 ∷ []) ∷ (number 1 ∷ []) ∷ []) }) true true ∷ the map_shape 2 (record (no_progress 1) { stores = (((number 3 ∷ []) ∷ (number 2 ∷ []) ∷ (number 1 ∷ []) ∷ []) ∷ []) ∷ [] }) true false ∷ [])
    (pipe 0 0 1 0 port.Done port.Done (Some ((number 1 ∷ []) ∷ (number 2 ∷ []) ∷ (number 3 ∷ []) ∷ []) ∷ []) 1 false false ∷ pipe 1 0 2 0 port.Ready port.Ready (Some ((number 3 ∷ []) ∷ (number 2 ∷ []) ∷ (number 1 ∷ []) ∷ []) ∷ []) 1 true true ∷ [])
    []

abbrev pub w13 : World
w13 =
    at 13 2 true
    (the map_shape 0 (record (no_progress 0) { sent = 1 }) false false ∷ the map_shape 1 (record (no_progress 1) { stage = giving; sent = 1; stores = (((number 1 ∷ []) ∷ (number 2 ∷ []) ∷ (number 3 ∷ []) ∷ []) ∷ []) ∷ []; made = Some ((number 3 ∷ []) ∷ (number 2 ∷ []) ∷ (number 1 ∷ []) ∷ []) }) true true ∷ the map_shape 2 (record (no_progress 1) { stores = (((number 3 ∷ []) ∷ (number 2 ∷ []) ∷ (number 1 ∷ []) ∷ []) ∷ []) ∷ [] }) true true ∷ [])
    (pipe 0 0 1 0 port.Done port.Done (Some ((number 1 ∷ []) ∷ (number 2 ∷ []) ∷ (number 3 ∷ []) ∷ []) ∷ []) 1 false false ∷ pipe 1 0 2 0 port.Ready port.Ready (Some ((number 3 ∷ []) ∷ (number 2 ∷ []) ∷ (number 1 ∷ []) ∷ []) ∷ []) 1 true true ∷ [])
    []

abbrev pub w14 : World
w14 =
    at 14 2 false
    (the map_shape 0 (record (no_progress 0) { sent = 1 }) false false ∷ the map_shape 1 (record (no_progress 1) { stage = giving; sent = 1; stores = (((number 1 ∷ []) ∷ (number 2 ∷ []) ∷ (number 3 ∷ []) ∷ []) ∷ []) ∷ []; made = Some ((number 3 ∷ []) ∷ (number 2 ∷ []) ∷ (number 1 ∷ []) ∷ []) }) false false ∷ the map_shape 2 (record (no_progress 1) { stores = (((number 3 ∷ []) ∷ (number 2 ∷ []) ∷ (number 1 ∷ []) ∷ []) ∷ []) ∷ [] }) false false ∷ [])
    (pipe 0 0 1 0 port.Done port.Done (Some ((number 1 ∷ []) ∷ (number 2 ∷ []) ∷ (number 3 ∷ []) ∷ []) ∷ []) 1 false false ∷ pipe 1 0 2 0 port.Ready port.Ready (Some ((number 3 ∷ []) ∷ (number 2 ∷ []) ∷ (number 1 ∷ []) ∷ []) ∷ []) 1 false false ∷ [])
    []

abbrev pub s3 : World
s3 =
    at 14 2 false
    (the map_shape 0 (record (no_progress 0) { sent = 1 }) false false ∷ the map_shape 1 (record (no_progress 1) { stage = spent; sent = 1; stores = (((number 1 ∷ []) ∷ (number 2 ∷ []) ∷ (number 3 ∷ []) ∷ []) ∷ []) ∷ []; made = Some ((number 3 ∷ []) ∷ (number 2 ∷ []) ∷ (number 1 ∷ []) ∷ []) }) false false ∷ the map_shape 2 (record (no_progress 1) { stores = (((number 3 ∷ []) ∷ (number 2 ∷ []) ∷ (number 1 ∷ []) ∷ []) ∷ []) ∷ [] }) false false ∷ [])
    (pipe 0 0 1 0 port.Done port.Done (Some ((number 1 ∷ []) ∷ (number 2 ∷ []) ∷ (number 3 ∷ []) ∷ []) ∷ []) 1 false false ∷ pipe 1 0 2 0 port.Done port.Done (Some ((number 3 ∷ []) ∷ (number 2 ∷ []) ∷ (number 1 ∷ []) ∷ []) ∷ []) 1 false false ∷ [])
    []

abbrev pub w15 : World
w15 =
    record (at 15 3 false
    (the map_shape 0 (record (no_progress 0) { sent = 1 }) false false ∷ the map_shape 1 (record (no_progress 1) { stage = spent; sent = 1; stores = (((number 1 ∷ []) ∷ (number 2 ∷ []) ∷ (number 3 ∷ []) ∷ []) ∷ []) ∷ []; made = Some ((number 3 ∷ []) ∷ (number 2 ∷ []) ∷ (number 1 ∷ []) ∷ []) }) false false ∷ the map_shape 2 (record (no_progress 1) { stores = (((number 3 ∷ []) ∷ (number 2 ∷ []) ∷ (number 1 ∷ []) ∷ []) ∷ []) ∷ [] }) false false ∷ [])
    (pipe 0 0 1 0 port.Done port.Done (Some ((number 1 ∷ []) ∷ (number 2 ∷ []) ∷ (number 3 ∷ []) ∷ []) ∷ []) 1 false false ∷ pipe 1 0 2 0 port.Done port.Done (Some ((number 3 ∷ []) ∷ (number 2 ∷ []) ∷ (number 1 ∷ []) ∷ []) ∷ []) 1 false false ∷ [])
    []) { ending = finished }

-- the table that the function gives for all rows
made : (F : Functions) → F.streams 0 ≡ false → F.answer 0 given ≡ Some turned_round → IsMade F (at_place map_shape 1) (whole_tables (a_schema ∷ []) (given.rows ∷ [])) turned_round.rows
made F streams answers =
    let given_whole : whole turned_round ≡ user_table F 1 0 (out_schema F 1 (user 0) (whole given ∷ [])) (whole given) =
    sym
    (ap (λ b. if b then stream_table F 1 0 (out_schema F 1 (user 0) (whole given ∷ [])) (whole given) else if_whole (out_schema F 1 (user 0) (whole given ∷ [])) [] (answer_or_fault 1 (out_schema F 1 (user 0) (whole given ∷ [])) (F.answer 0 given))) streams
    ∙ ap (answer_or_fault 1 (out_schema F 1 (user 0) (whole given ∷ []))) answers) in
    (whole turned_round, (whole turned_round, inl given_whole, refl), refl, refl, omega arith)

-- a fill of a map that waits
filled_in : (F : Functions) {w v : World} (n : ℕ) (progress : Progress) → FillsAt F w n (node_of w n) progress → Updates F (with_progress n progress w) v → Updates F w v
filled_in F {w} n progress f u = one_fill n (node_of w n) progress f u

updates_1 : (F : Functions) → Updates F w0 s1
updates_1 F = same F 2 (refl, refl, inl (refl, refl)) (same F 1 (refl, refl, inl (refl, refl)) (same F 0 (refl, refl, inl (refl, refl)) (no_update)))

settled_1 : IsSettled s1
settled_1 = settled_by s1 (record { stage = refl; states = refl; agrees = refl; filled = refl }, (record { stage = refl; states = refl; agrees = refl; filled = refl }, (record { stage = refl; states = refl; agrees = refl; filled = refl }, tt)))

step_1 : (F : Functions) → Steps F w0 (opened 1) w1
step_1 F = (refl, refl, refl, (s1, updates_1 F, settles settled_1 refl))

step_2 : (F : Functions) → Steps F w1 (claimed 0 0 0 0) w2
step_2 F = (node_of w1 0, (refl, refl, refl), (omega arith, tt), refl, (refl, tt), (get_claim (claim_at w1 0 0 (node_of w1 0)), refl, refl, refl))

step_3 : (F : Functions) → Steps F w2 (handed_in 0 0 0 0 (rows 3)) w3
step_3 F = (piece 0 0 0 0 0 (hands_on) (a_schema ∷ []) (((number 1 ∷ []) ∷ (number 2 ∷ []) ∷ (number 3 ∷ []) ∷ []) ∷ []), (0, omega arith, refl), refl, refl, refl, refl, refl, (good ((number 1 ∷ []) ∷ (number 2 ∷ []) ∷ (number 3 ∷ []) ∷ []), refl, refl, refl))

step_4 : (F : Functions) → Steps F w3 (pulled 1 0 0) w4
step_4 F = (node_of w3 1, (refl, refl, refl), refl, refl, (pipe 0 0 1 0 port.Ready port.Ready (Some ((number 1 ∷ []) ∷ (number 2 ∷ []) ∷ (number 3 ∷ []) ∷ []) ∷ []) 0 true false, ((number 1 ∷ []) ∷ (number 2 ∷ []) ∷ (number 3 ∷ []) ∷ []), (0, omega arith, refl), refl, refl, refl, refl, refl, refl))

step_5 : (F : Functions) → Steps F w4 (closed 0) w5
step_5 F = (node_of w4 0, (refl, refl, refl), refl, inl (refl, λ i. both_none (nat_eq i 0)), refl)

step_6 : (F : Functions) → Steps F w5 (closed 1) w6
step_6 F = (node_of w5 1, (refl, refl, refl), refl, inl (refl, λ i. both_none (nat_eq i 0)), refl)

step_7 : (F : Functions) → Steps F w6 (ended 1) w7
step_7 F = (refl, refl, refl, ((λ h. refl), ((λ h. refl), ((λ h. absurd (let no : false ≡ true = h in cc)), tt))), refl)

updates_2 : (F : Functions) → F.streams 0 ≡ false → F.answer 0 given ≡ Some turned_round → Updates F w7 s2
updates_2 F streams answers = same F 0 (refl, refl, inl (refl, refl)) (same F 1 (refl, refl, inl (refl, refl)) (filled_in F 1 (record (no_progress 1) { stores = (((number 1 ∷ []) ∷ (number 2 ∷ []) ∷ (number 3 ∷ []) ∷ []) ∷ []) ∷ []; made = Some ((number 3 ∷ []) ∷ (number 2 ∷ []) ∷ (number 1 ∷ []) ∷ []) }) (refl, (refl, ((number 3 ∷ []) ∷ (number 2 ∷ []) ∷ (number 1 ∷ []) ∷ []), made F streams answers, refl)) (turned F 1 (record (no_progress 1) { stage = giving; stores = (((number 1 ∷ []) ∷ (number 2 ∷ []) ∷ (number 3 ∷ []) ∷ []) ∷ []) ∷ []; made = Some ((number 3 ∷ []) ∷ (number 2 ∷ []) ∷ (number 1 ∷ []) ∷ []) }) (refl, refl, inr (refl, record (no_progress 1) { stores = (((number 1 ∷ []) ∷ (number 2 ∷ []) ∷ (number 3 ∷ []) ∷ []) ∷ []) ∷ []; made = Some ((number 3 ∷ []) ∷ (number 2 ∷ []) ∷ (number 1 ∷ []) ∷ []) }, inl (refl, refl), refl)) (no_update))))

settled_2 : IsSettled s2
settled_2 = settled_by s2 (record { stage = refl; states = refl; agrees = refl; filled = refl }, (record { stage = refl; states = refl; agrees = refl; filled = refl }, (record { stage = refl; states = refl; agrees = refl; filled = refl }, tt)))

step_8 : (F : Functions) → F.streams 0 ≡ false → F.answer 0 given ≡ Some turned_round → Steps F w7 (opened 2) w8
step_8 F streams answers = (refl, refl, refl, (s2, updates_2 F streams answers, settles settled_2 refl))

step_9 : (F : Functions) → Steps F w8 (claimed 1 0 0 0) w9
step_9 F = (node_of w8 1, (refl, refl, refl), (omega arith, tt), refl, (refl, tt), (get_claim (claim_at w8 1 0 (node_of w8 1)), refl, refl, refl))

step_10 : (F : Functions) → Steps F w9 (handed_in 1 0 0 0 (rows 3)) w10
step_10 F = (piece 1 0 0 0 0 (hands_on) (a_schema ∷ []) (((number 3 ∷ []) ∷ (number 2 ∷ []) ∷ (number 1 ∷ []) ∷ []) ∷ []), (0, omega arith, refl), refl, refl, refl, refl, refl, (good ((number 3 ∷ []) ∷ (number 2 ∷ []) ∷ (number 1 ∷ []) ∷ []), refl, refl, refl))

step_11 : (F : Functions) → Steps F w10 (pulled 2 0 0) w11
step_11 F = (node_of w10 2, (refl, refl, refl), refl, refl, (pipe 1 0 2 0 port.Ready port.Ready (Some ((number 3 ∷ []) ∷ (number 2 ∷ []) ∷ (number 1 ∷ []) ∷ []) ∷ []) 0 true false, ((number 3 ∷ []) ∷ (number 2 ∷ []) ∷ (number 1 ∷ []) ∷ []), (1, omega arith, refl), refl, refl, refl, refl, refl, refl))

step_12 : (F : Functions) → Steps F w11 (closed 1) w12
step_12 F = (node_of w11 1, (refl, refl, refl), refl, inl (refl, λ i. both_none (nat_eq i 0)), refl)

step_13 : (F : Functions) → Steps F w12 (closed 2) w13
step_13 F = (node_of w12 2, (refl, refl, refl), refl, inl (refl, λ i. refl), refl)

step_14 : (F : Functions) → Steps F w13 (ended 2) w14
step_14 F = (refl, refl, refl, ((λ h. absurd (let no : false ≡ true = h in cc)), ((λ h. refl), ((λ h. refl), tt))), refl)

updates_3 : (F : Functions) → Updates F w14 s3
updates_3 F = turned F 1 (record (no_progress 1) { stage = spent; sent = 1; stores = (((number 1 ∷ []) ∷ (number 2 ∷ []) ∷ (number 3 ∷ []) ∷ []) ∷ []) ∷ []; made = Some ((number 3 ∷ []) ∷ (number 2 ∷ []) ∷ (number 1 ∷ []) ∷ []) }) (refl, refl, inl (refl, refl)) (same F 2 (refl, refl, inl (refl, refl)) (no_update))

settled_3 : IsSettled s3
settled_3 = settled_by s3 (record { stage = refl; states = refl; agrees = refl; filled = refl }, (record { stage = refl; states = refl; agrees = refl; filled = refl }, (record { stage = refl; states = refl; agrees = refl; filled = refl }, tt)))

step_15 : (F : Functions) → Steps F w14 (opened 3) w15
step_15 F = (refl, refl, refl, (s3, updates_3 F, settles settled_3 refl))

pub run : (F : Functions) → F.streams 0 ≡ false → F.answer 0 given ≡ Some turned_round → Replays F w0 map_journal w15
run F streams answers = (w1, step_1 F, (w2, step_2 F, (w3, step_3 F, (w4, step_4 F, (w5, step_5 F, (w6, step_6 F, (w7, step_7 F, (w8, step_8 F streams answers, (w9, step_9 F, (w10, step_10 F, (w11, step_11 F, (w12, step_12 F, (w13, step_13 F, (w14, step_14 F, (w15, step_15 F, refl)))))))))))))))

pub leaves : (F : Functions) → F.streams 0 ≡ false → F.answer 0 given ≡ Some turned_round → Leaves F map_shape one_worker map_journal ([] ∷ ((((number 1 ∷ []) ∷ (number 2 ∷ []) ∷ (number 3 ∷ []) ∷ []) ∷ []) ∷ []) ∷ ((((number 3 ∷ []) ∷ (number 2 ∷ []) ∷ (number 1 ∷ []) ∷ []) ∷ []) ∷ []) ∷ [])
leaves F streams answers = (w15, run F streams answers, refl)
