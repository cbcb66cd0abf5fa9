-- The worlds of that run, written out, and its steps.
use Rattle.std.proofs.Common.{ℕ, Bool, true, false, List, [], ◌∷◌, Some, None, refl, ap, inl, inr, arith}
use Rattle.std.specs.Prelude.{take}
use Rattle.ps_frame.specs.Functions.{Functions}
use Rattle.ps_ports.specs.declared.port_state.PortState.TheVariants as port
use Rattle.ps_turns.specs.Claims.{claim_of}
use Rattle.ps_turns.specs.Tasks.{Piece, good, hands_on, rows}
use Rattle.ps_world.specs.Claims.{claim_at}
use Rattle.ps_world.specs.Opening.{no_progress, opening}
use Rattle.ps_world.specs.Step.{Replays, Steps, settles}
use Rattle.ps_world.specs.Updates.{IsSettled, Updates, no_update}
use Rattle.ps_world.specs.World.{Node, Pipe, World, claimed, closed, ended, finished, handed_in, inputs_done, opened, pulled, running, schemas_for}
use Rattle.world_runs.proofs.Writing.{get_claim, no_next, piece, pipe, same, settled_by, the}
use Rattle.world_runs.specs.Examples.{Leaves, number, options, a_schema}
use Rattle.world_runs.specs.Nodes.{node_of}
use Rattle.world_runs.specs.SliceRun.{slice_journal, one_by_one, slice_shape}

-- the world after so many records
abbrev at : (records phase : ℕ) → Bool → List Node → List Pipe → List Piece → World
at k phase is_open nodes pipes outs = record { options = one_by_one; nodes = nodes; pipes = pipes; outs = outs; phase = phase; is_open = is_open; journal = take k slice_journal; ending = running }

abbrev pub w0 : World
w0 = opening slice_shape one_by_one

abbrev pub s1 : World
s1 =
    at 0 0 false
    (the slice_shape 0 (no_progress 0) false false ∷ the slice_shape 1 (no_progress 1) false false ∷ the slice_shape 2 (no_progress 1) false false ∷ [])
    (pipe 0 0 1 0 port.Ready port.Ready [] 0 false false ∷ pipe 1 0 2 0 port.Ready port.Ready [] 0 false false ∷ [])
    []

abbrev pub w1 : World
w1 =
    at 1 1 true
    (the slice_shape 0 (no_progress 0) true false ∷ the slice_shape 1 (no_progress 1) true false ∷ the slice_shape 2 (no_progress 1) true false ∷ [])
    (pipe 0 0 1 0 port.Ready port.Ready [] 0 true false ∷ pipe 1 0 2 0 port.Ready port.Ready [] 0 true false ∷ [])
    []

abbrev pub w2 : World
w2 =
    at 2 1 true
    (the slice_shape 0 (record (no_progress 0) { sent = 1 }) true false ∷ the slice_shape 1 (no_progress 1) true false ∷ the slice_shape 2 (no_progress 1) true false ∷ [])
    (pipe 0 0 1 0 port.Ready port.Ready (None ∷ []) 0 true false ∷ pipe 1 0 2 0 port.Ready port.Ready [] 0 true false ∷ [])
    (piece 0 0 0 0 0 (hands_on) (a_schema ∷ []) (((number 1 ∷ []) ∷ []) ∷ []) ∷ [])

abbrev pub w3 : World
w3 =
    at 3 1 true
    (the slice_shape 0 (record (no_progress 0) { sent = 1 }) true false ∷ the slice_shape 1 (no_progress 1) true false ∷ the slice_shape 2 (no_progress 1) true false ∷ [])
    (pipe 0 0 1 0 port.Ready port.Ready (Some ((number 1 ∷ []) ∷ []) ∷ []) 0 true false ∷ pipe 1 0 2 0 port.Ready port.Ready [] 0 true false ∷ [])
    []

abbrev pub w4 : World
w4 =
    at 4 1 true
    (the slice_shape 0 (record (no_progress 0) { sent = 1 }) true false ∷ the slice_shape 1 (record (no_progress 1) { booked = 1 }) true false ∷ the slice_shape 2 (no_progress 1) true false ∷ [])
    (pipe 0 0 1 0 port.Ready port.Ready (Some ((number 1 ∷ []) ∷ []) ∷ []) 1 true false ∷ pipe 1 0 2 0 port.Ready port.Ready (None ∷ []) 0 true false ∷ [])
    (piece 1 0 0 0 0 (hands_on) (a_schema ∷ []) (((number 1 ∷ []) ∷ []) ∷ []) ∷ [])

abbrev pub w5 : World
w5 =
    at 5 1 true
    (the slice_shape 0 (record (no_progress 0) { sent = 1 }) true false ∷ the slice_shape 1 (record (no_progress 1) { booked = 1 }) true false ∷ the slice_shape 2 (no_progress 1) true false ∷ [])
    (pipe 0 0 1 0 port.Ready port.Ready (Some ((number 1 ∷ []) ∷ []) ∷ []) 1 true false ∷ pipe 1 0 2 0 port.Ready port.Ready (Some ((number 1 ∷ []) ∷ []) ∷ []) 0 true false ∷ [])
    []

abbrev pub w6 : World
w6 =
    at 6 1 true
    (the slice_shape 0 (record (no_progress 0) { sent = 2 }) true false ∷ the slice_shape 1 (record (no_progress 1) { booked = 1 }) true false ∷ the slice_shape 2 (no_progress 1) true false ∷ [])
    (pipe 0 0 1 0 port.Ready port.Ready (Some ((number 1 ∷ []) ∷ []) ∷ None ∷ []) 1 true false ∷ pipe 1 0 2 0 port.Ready port.Ready (Some ((number 1 ∷ []) ∷ []) ∷ []) 0 true false ∷ [])
    (piece 0 0 1 0 1 (hands_on) (a_schema ∷ []) (((number 2 ∷ []) ∷ []) ∷ []) ∷ [])

abbrev pub w7 : World
w7 =
    at 7 1 true
    (the slice_shape 0 (record (no_progress 0) { sent = 2 }) true false ∷ the slice_shape 1 (record (no_progress 1) { booked = 1 }) true false ∷ the slice_shape 2 (no_progress 1) true false ∷ [])
    (pipe 0 0 1 0 port.Ready port.Ready (Some ((number 1 ∷ []) ∷ []) ∷ Some ((number 2 ∷ []) ∷ []) ∷ []) 1 true false ∷ pipe 1 0 2 0 port.Ready port.Ready (Some ((number 1 ∷ []) ∷ []) ∷ []) 0 true false ∷ [])
    []

abbrev pub w8 : World
w8 =
    at 8 1 true
    (the slice_shape 0 (record (no_progress 0) { sent = 2 }) true false ∷ the slice_shape 1 (record (no_progress 1) { booked = 2 }) true false ∷ the slice_shape 2 (no_progress 1) true false ∷ [])
    (record (pipe 0 0 1 0 port.Ready port.Ready (Some ((number 1 ∷ []) ∷ []) ∷ Some ((number 2 ∷ []) ∷ []) ∷ []) 2 true false) { is_dropped = true } ∷ pipe 1 0 2 0 port.Ready port.Ready (Some ((number 1 ∷ []) ∷ []) ∷ None ∷ []) 0 true false ∷ [])
    (piece 1 0 1 0 1 (hands_on) (a_schema ∷ []) (((number 2 ∷ []) ∷ []) ∷ []) ∷ [])

abbrev pub w9 : World
w9 =
    at 9 1 true
    (the slice_shape 0 (record (no_progress 0) { sent = 2 }) true false ∷ the slice_shape 1 (record (no_progress 1) { booked = 2 }) true false ∷ the slice_shape 2 (no_progress 1) true false ∷ [])
    (record (pipe 0 0 1 0 port.Ready port.Ready (Some ((number 1 ∷ []) ∷ []) ∷ Some ((number 2 ∷ []) ∷ []) ∷ []) 2 true false) { is_dropped = true } ∷ pipe 1 0 2 0 port.Ready port.Ready (Some ((number 1 ∷ []) ∷ []) ∷ Some ((number 2 ∷ []) ∷ []) ∷ []) 0 true false ∷ [])
    []

abbrev pub w10 : World
w10 =
    at 10 1 true
    (the slice_shape 0 (record (no_progress 0) { sent = 2 }) true false ∷ the slice_shape 1 (record (no_progress 1) { booked = 2 }) true false ∷ the slice_shape 2 (record (no_progress 1) { stores = (((number 1 ∷ []) ∷ []) ∷ []) ∷ [] }) true false ∷ [])
    (record (pipe 0 0 1 0 port.Ready port.Ready (Some ((number 1 ∷ []) ∷ []) ∷ Some ((number 2 ∷ []) ∷ []) ∷ []) 2 true false) { is_dropped = true } ∷ pipe 1 0 2 0 port.Ready port.Ready (Some ((number 1 ∷ []) ∷ []) ∷ Some ((number 2 ∷ []) ∷ []) ∷ []) 1 true false ∷ [])
    []

abbrev pub w11 : World
w11 =
    at 11 1 true
    (the slice_shape 0 (record (no_progress 0) { sent = 2 }) true false ∷ the slice_shape 1 (record (no_progress 1) { booked = 2 }) true false ∷ the slice_shape 2 (record (no_progress 1) { stores = (((number 1 ∷ []) ∷ []) ∷ ((number 2 ∷ []) ∷ []) ∷ []) ∷ [] }) true false ∷ [])
    (record (pipe 0 0 1 0 port.Ready port.Ready (Some ((number 1 ∷ []) ∷ []) ∷ Some ((number 2 ∷ []) ∷ []) ∷ []) 2 true false) { is_dropped = true } ∷ pipe 1 0 2 0 port.Ready port.Ready (Some ((number 1 ∷ []) ∷ []) ∷ Some ((number 2 ∷ []) ∷ []) ∷ []) 2 true false ∷ [])
    []

abbrev pub w12 : World
w12 =
    at 12 1 true
    (the slice_shape 0 (record (no_progress 0) { sent = 2 }) true false ∷ the slice_shape 1 (record (no_progress 1) { booked = 2 }) true true ∷ the slice_shape 2 (record (no_progress 1) { stores = (((number 1 ∷ []) ∷ []) ∷ ((number 2 ∷ []) ∷ []) ∷ []) ∷ [] }) true false ∷ [])
    (record (pipe 0 0 1 0 port.Ready port.Ready (Some ((number 1 ∷ []) ∷ []) ∷ Some ((number 2 ∷ []) ∷ []) ∷ []) 2 true false) { is_dropped = true } ∷ pipe 1 0 2 0 port.Ready port.Ready (Some ((number 1 ∷ []) ∷ []) ∷ Some ((number 2 ∷ []) ∷ []) ∷ []) 2 true true ∷ [])
    []

abbrev pub w13 : World
w13 =
    at 13 1 true
    (the slice_shape 0 (record (no_progress 0) { sent = 2 }) true false ∷ the slice_shape 1 (record (no_progress 1) { booked = 2 }) true true ∷ the slice_shape 2 (record (no_progress 1) { stores = (((number 1 ∷ []) ∷ []) ∷ ((number 2 ∷ []) ∷ []) ∷ []) ∷ [] }) true true ∷ [])
    (record (pipe 0 0 1 0 port.Ready port.Ready (Some ((number 1 ∷ []) ∷ []) ∷ Some ((number 2 ∷ []) ∷ []) ∷ []) 2 true false) { is_dropped = true } ∷ pipe 1 0 2 0 port.Ready port.Ready (Some ((number 1 ∷ []) ∷ []) ∷ Some ((number 2 ∷ []) ∷ []) ∷ []) 2 true true ∷ [])
    []

abbrev pub w14 : World
w14 =
    at 14 1 true
    (the slice_shape 0 (record (no_progress 0) { sent = 2 }) true true ∷ the slice_shape 1 (record (no_progress 1) { booked = 2 }) true true ∷ the slice_shape 2 (record (no_progress 1) { stores = (((number 1 ∷ []) ∷ []) ∷ ((number 2 ∷ []) ∷ []) ∷ []) ∷ [] }) true true ∷ [])
    (record (pipe 0 0 1 0 port.Ready port.Ready (Some ((number 1 ∷ []) ∷ []) ∷ Some ((number 2 ∷ []) ∷ []) ∷ []) 2 true true) { is_dropped = true } ∷ pipe 1 0 2 0 port.Ready port.Ready (Some ((number 1 ∷ []) ∷ []) ∷ Some ((number 2 ∷ []) ∷ []) ∷ []) 2 true true ∷ [])
    []

abbrev pub w15 : World
w15 =
    at 15 1 false
    (the slice_shape 0 (record (no_progress 0) { sent = 2 }) false false ∷ the slice_shape 1 (record (no_progress 1) { booked = 2 }) false false ∷ the slice_shape 2 (record (no_progress 1) { stores = (((number 1 ∷ []) ∷ []) ∷ ((number 2 ∷ []) ∷ []) ∷ []) ∷ [] }) false false ∷ [])
    (record (pipe 0 0 1 0 port.Ready port.Ready (Some ((number 1 ∷ []) ∷ []) ∷ Some ((number 2 ∷ []) ∷ []) ∷ []) 2 false false) { is_dropped = true } ∷ pipe 1 0 2 0 port.Ready port.Ready (Some ((number 1 ∷ []) ∷ []) ∷ Some ((number 2 ∷ []) ∷ []) ∷ []) 2 false false ∷ [])
    []

abbrev pub s2 : World
s2 =
    at 15 1 false
    (the slice_shape 0 (record (no_progress 0) { sent = 2 }) false false ∷ the slice_shape 1 (record (no_progress 1) { booked = 2 }) false false ∷ the slice_shape 2 (record (no_progress 1) { stores = (((number 1 ∷ []) ∷ []) ∷ ((number 2 ∷ []) ∷ []) ∷ []) ∷ [] }) false false ∷ [])
    (record (pipe 0 0 1 0 port.Done port.Done (Some ((number 1 ∷ []) ∷ []) ∷ Some ((number 2 ∷ []) ∷ []) ∷ []) 2 false false) { is_dropped = true; is_unread = true } ∷ pipe 1 0 2 0 port.Done port.Done (Some ((number 1 ∷ []) ∷ []) ∷ Some ((number 2 ∷ []) ∷ []) ∷ []) 2 false false ∷ [])
    []

abbrev pub w16 : World
w16 =
    record (at 16 2 false
    (the slice_shape 0 (record (no_progress 0) { sent = 2 }) false false ∷ the slice_shape 1 (record (no_progress 1) { booked = 2 }) false false ∷ the slice_shape 2 (record (no_progress 1) { stores = (((number 1 ∷ []) ∷ []) ∷ ((number 2 ∷ []) ∷ []) ∷ []) ∷ [] }) false false ∷ [])
    (record (pipe 0 0 1 0 port.Done port.Done (Some ((number 1 ∷ []) ∷ []) ∷ Some ((number 2 ∷ []) ∷ []) ∷ []) 2 false false) { is_dropped = true; is_unread = true } ∷ pipe 1 0 2 0 port.Done port.Done (Some ((number 1 ∷ []) ∷ []) ∷ Some ((number 2 ∷ []) ∷ []) ∷ []) 2 false false ∷ [])
    []) { ending = finished }

updates_1 : (F : Functions) → Updates F w0 s1
updates_1 F = same F 2 (refl, refl, inl (refl, refl)) (same F 1 (refl, refl, inl (refl, refl)) (same F 0 (refl, refl, inl (refl, refl)) (same F 1 (refl, refl, inl (refl, refl)) (no_update))))

settled_1 : IsSettled s1
settled_1 = settled_by s1 (record { stage = refl; states = refl; agrees = refl; filled = refl }, (record { stage = refl; states = refl; agrees = refl; filled = refl }, (record { stage = refl; states = refl; agrees = refl; filled = refl }, tt)))

step_1 : (F : Functions) → Steps F w0 (opened 1) w1
step_1 F = (refl, refl, refl, (s1, updates_1 F, settles settled_1 refl))

step_2 : (F : Functions) → Steps F w1 (claimed 0 0 0 0) w2
step_2 F = (node_of w1 0, (refl, refl, refl), (omega arith, tt), refl, (refl, tt), (get_claim (claim_at w1 0 0 (node_of w1 0)), refl, refl, refl))

step_3 : (F : Functions) → Steps F w2 (handed_in 0 0 0 0 (rows 1)) w3
step_3 F = (piece 0 0 0 0 0 (hands_on) (a_schema ∷ []) (((number 1 ∷ []) ∷ []) ∷ []), (0, omega arith, refl), refl, refl, refl, refl, refl, (good ((number 1 ∷ []) ∷ []), refl, refl, refl))

step_4 : (F : Functions) → Steps F w3 (claimed 1 0 0 0) w4
step_4 F = (node_of w3 1, (refl, refl, refl), (omega arith, tt), refl, (refl, tt), (get_claim (claim_at w3 1 0 (node_of w3 1)), refl, refl, refl))

step_5 : (F : Functions) → Steps F w4 (handed_in 1 0 0 0 (rows 1)) w5
step_5 F = (piece 1 0 0 0 0 (hands_on) (a_schema ∷ []) (((number 1 ∷ []) ∷ []) ∷ []), (0, omega arith, refl), refl, refl, refl, refl, refl, (good ((number 1 ∷ []) ∷ []), refl, refl, refl))

step_6 : (F : Functions) → Steps F w5 (claimed 0 0 1 0) w6
step_6 F = (node_of w5 0, (refl, refl, refl), (omega arith, tt), refl, (refl, tt), (get_claim (claim_at w5 0 0 (node_of w5 0)), refl, refl, refl))

step_7 : (F : Functions) → Steps F w6 (handed_in 0 0 1 0 (rows 1)) w7
step_7 F = (piece 0 0 1 0 1 (hands_on) (a_schema ∷ []) (((number 2 ∷ []) ∷ []) ∷ []), (0, omega arith, refl), refl, refl, refl, refl, refl, (good ((number 2 ∷ []) ∷ []), refl, refl, refl))

step_8 : (F : Functions) → Steps F w7 (claimed 1 0 1 0) w8
step_8 F = (node_of w7 1, (refl, refl, refl), (omega arith, tt), refl, (refl, tt), (get_claim (claim_at w7 1 0 (node_of w7 1)), refl, refl, refl))

step_9 : (F : Functions) → Steps F w8 (handed_in 1 0 1 0 (rows 1)) w9
step_9 F = (piece 1 0 1 0 1 (hands_on) (a_schema ∷ []) (((number 2 ∷ []) ∷ []) ∷ []), (0, omega arith, refl), refl, refl, refl, refl, refl, (good ((number 2 ∷ []) ∷ []), refl, refl, refl))

step_10 : (F : Functions) → Steps F w9 (pulled 2 0 0) w10
step_10 F = (node_of w9 2, (refl, refl, refl), refl, refl, (pipe 1 0 2 0 port.Ready port.Ready (Some ((number 1 ∷ []) ∷ []) ∷ Some ((number 2 ∷ []) ∷ []) ∷ []) 0 true false, ((number 1 ∷ []) ∷ []), (1, omega arith, refl), refl, refl, refl, refl, refl, refl))

step_11 : (F : Functions) → Steps F w10 (pulled 2 0 1) w11
step_11 F = (node_of w10 2, (refl, refl, refl), refl, refl, (pipe 1 0 2 0 port.Ready port.Ready (Some ((number 1 ∷ []) ∷ []) ∷ Some ((number 2 ∷ []) ∷ []) ∷ []) 1 true false, ((number 2 ∷ []) ∷ []), (1, omega arith, refl), refl, refl, refl, refl, refl, refl))

step_12 : (F : Functions) → Steps F w11 (closed 1) w12
step_12 F = (node_of w11 1, (refl, refl, refl), refl, inl (refl, λ i. ap (λ next. claim_of one_by_one (node_of w11 1).node (schemas_for w11 (node_of w11 1)) (node_of w11 1).progress [] (inputs_done w11 1) i next) (no_next w11 1 i refl)), refl)

step_13 : (F : Functions) → Steps F w12 (closed 2) w13
step_13 F = (node_of w12 2, (refl, refl, refl), refl, inl (refl, λ i. refl), refl)

step_14 : (F : Functions) → Steps F w13 (closed 0) w14
step_14 F = (node_of w13 0, (refl, refl, refl), refl, inr refl, refl)

step_15 : (F : Functions) → Steps F w14 (ended 1) w15
step_15 F = (refl, refl, refl, ((λ h. refl), ((λ h. refl), ((λ h. refl), tt))), refl)

updates_2 : (F : Functions) → Updates F w15 s2
updates_2 F = same F 1 (refl, refl, inl (refl, refl)) (same F 0 (refl, refl, inl (refl, refl)) (same F 2 (refl, refl, inl (refl, refl)) (no_update)))

settled_2 : IsSettled s2
settled_2 = settled_by s2 (record { stage = refl; states = refl; agrees = refl; filled = refl }, (record { stage = refl; states = refl; agrees = refl; filled = refl }, (record { stage = refl; states = refl; agrees = refl; filled = refl }, tt)))

step_16 : (F : Functions) → Steps F w15 (opened 2) w16
step_16 F = (refl, refl, refl, (s2, updates_2 F, settles settled_2 refl))

pub run : (F : Functions) → Replays F w0 slice_journal w16
run F = (w1, step_1 F, (w2, step_2 F, (w3, step_3 F, (w4, step_4 F, (w5, step_5 F, (w6, step_6 F, (w7, step_7 F, (w8, step_8 F, (w9, step_9 F, (w10, step_10 F, (w11, step_11 F, (w12, step_12 F, (w13, step_13 F, (w14, step_14 F, (w15, step_15 F, (w16, step_16 F, refl))))))))))))))))

pub leaves : (F : Functions) → Leaves F slice_shape one_by_one slice_journal ([] ∷ ([] ∷ []) ∷ ((((number 1 ∷ []) ∷ []) ∷ ((number 2 ∷ []) ∷ []) ∷ []) ∷ []) ∷ [])
leaves F = (w16, run F, refl)
