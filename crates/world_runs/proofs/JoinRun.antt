-- That run, step by step: at its end the sink keeps the rows in the left input's order.
use Rattle.std.proofs.Common.{◌≡◌, ℕ, zero, suc, Bool, true, false, [], ◌∷◌, Option, Some, None, refl, ap, inl, inr, arith}
use Rattle.std.specs.Prelude.{◌&&◌, cond, get_or, nat_eq}
use Rattle.ps_frame.specs.Functions.{Functions}
use Rattle.ps_ports.specs.declared.port_state.PortState.TheVariants as port
use Rattle.ps_turns.specs.Claims.{Claim, claim_of}
use Rattle.ps_turns.specs.Progress.{Progress, giving, spent}
use Rattle.ps_turns.specs.Tasks.{good, hands_on, keeps, partial, probes, rows}
use Rattle.ps_meaning.specs.declared.options.JoinType.TheVariants as how
use Rattle.ps_world.specs.Claims.{claim_at, next_morsel}
use Rattle.world_runs.specs.Examples.{Leaves}
use Rattle.ps_world.specs.Opening.{fresh_pipe, no_progress}
use Rattle.ps_world.specs.Step.{Replays, Steps, settles}
use Rattle.ps_world.specs.Updates.{IsSettled, TurnsAt, Updates, no_update, one_update, updated}
use Rattle.ps_world.specs.World.{Pipe, World, inputs_done, claimed, closed, ended, handed_in, opened, pulled}
use Rattle.world_runs.specs.Joins.{a_left_join, both_fields, left_fields, on_k, right_fields, right_rows, two_workers}
use Rattle.world_runs.specs.JoinRun.{a0, a1, join_journal, join_shape, l0, l1, r0, r1}
use Rattle.world_runs.proofs.JoinWorlds.{piece, pipe, s1, s2, s3, w0, w1, w2, w3, w4, w5, w6, w7, w8, w9, w10, w11, w12, w13, w14, w15, w16, w17, w18, w19, w20, w21, w22, w23, w24, w25, w26, w27, w28}
use Rattle.world_runs.specs.Nodes.{node_of, update}
use Rattle.world_runs.proofs.Settled.{four}

-- a claim that is there
abbrev get_claim : Option Claim → Claim
get_claim None = record { progress = no_progress 0; number = 0; gives = 0; task = hands_on; schemas = []; tables = []; takes_morsel = false; drops_input = false }
get_claim (Some c) = c

-- an update that keeps the stage, and one after which the join has this behind it
same : (F : Functions) {w v : World} (n : ℕ) → TurnsAt F w n (node_of w n) (node_of w n).progress → Updates F (update w n) v → Updates F w v
same F {w} n t u = one_update n (node_of w n) (node_of w n).progress t u

turned : (F : Functions) {w v : World} (progress : Progress) → TurnsAt F w 2 (node_of w 2) progress → Updates F (updated w 2 (node_of w 2) progress) v → Updates F w v
turned F {w} progress t u = one_update 2 (node_of w 2) progress t u

first_updates : (F : Functions) → Updates F w0 s1
first_updates F = same F 3 (refl, refl, inl (refl, refl)) (same F 2 (refl, refl, inl (refl, refl)) (same F 0 (refl, refl, inl (refl, refl)) (same F 1 (refl, refl, inl (refl, refl)) no_update)))

-- with the right source done, the join probes
second_updates : (F : Functions) → Updates F w12 s2
second_updates F =
    same F 1 (refl, refl, inl (refl, refl)) (turned F (record (node_of w12 2).progress { stage = giving }) (refl, refl, inr (refl, (node_of w12 2).progress, refl, refl)) no_update)

-- with the left one done, it is spent
third_updates : (F : Functions) → Updates F w27 s3
third_updates F =
    same F 0 (refl, refl, inl (refl, refl)) (turned F (record (node_of w27 2).progress { stage = spent }) (refl, refl, inl (refl, refl)) (same F 3 (refl, refl, inl (refl, refl)) no_update))

first_settled : IsSettled s1
first_settled =
    four s1 refl (record { stage = refl; states = refl; agrees = refl; filled = refl }) (record { stage = refl; states = refl; agrees = refl; filled = refl }) (record { stage = refl; states = refl; agrees = refl; filled = refl })
    (record { stage = refl; states = refl; agrees = refl; filled = refl })

second_settled : IsSettled s2
second_settled =
    four s2 refl (record { stage = refl; states = refl; agrees = refl; filled = refl }) (record { stage = refl; states = refl; agrees = refl; filled = refl }) (record { stage = refl; states = refl; agrees = refl; filled = refl })
    (record { stage = refl; states = refl; agrees = refl; filled = refl })

third_settled : IsSettled s3
third_settled =
    four s3 refl (record { stage = refl; states = refl; agrees = refl; filled = refl }) (record { stage = refl; states = refl; agrees = refl; filled = refl }) (record { stage = refl; states = refl; agrees = refl; filled = refl })
    (record { stage = refl; states = refl; agrees = refl; filled = refl })

-- where a node closes, it has no claim left
both_none : (b : Bool) → cond {A = Option Claim} b None None ≡ None
both_none true = refl
both_none false = refl

source_1_ends : (i : ℕ) → claim_at w5 1 i (node_of w5 1) ≡ None
source_1_ends i = both_none (nat_eq i 0)

source_0_ends : (i : ℕ) → claim_at w17 0 i (node_of w17 0) ≡ None
source_0_ends i = both_none (nat_eq i 0)

abbrev pipe_of : World → ℕ → Pipe
pipe_of w k = get_or w.pipes k (fresh_pipe 0 0 0 0)

-- whichever pipes are asked, no input of the join has a next morsel
none_next : (b c : Bool) → next_morsel (cond b (pipe_of w10 0 ∷ cond c (pipe_of w10 1 ∷ []) []) (cond c (pipe_of w10 1 ∷ []) [])) ≡ None
none_next true true = refl
none_next true false = refl
none_next false true = refl
none_next false false = refl

build_ends : (i : ℕ) → claim_at w10 2 i (node_of w10 2) ≡ None
build_ends zero = refl
build_ends (suc i) =
    ap (λ next. claim_of two_workers a_left_join both_fields (node_of w10 2).progress [] (inputs_done w10 2) (suc i) next) (none_next (nat_eq 0 (suc i) && false) (nat_eq 1 (suc i) && true))

probe_ends : (i : ℕ) → claim_at w22 2 i (node_of w22 2) ≡ None
probe_ends zero = refl
probe_ends (suc i) = refl

step_1 : (F : Functions) → Steps F w0 (opened 1) w1
step_1 F = (refl, refl, refl, (s1, first_updates F, settles first_settled refl))

step_2 : (F : Functions) → Steps F w1 (claimed 1 0 0 0) w2
step_2 F = (node_of w1 1, (refl, refl, refl), (omega arith, tt), refl, (refl, tt), (get_claim (claim_at w1 1 0 (node_of w1 1)), refl, refl, refl))

step_3 : (F : Functions) → Steps F w2 (claimed 1 0 1 1) w3
step_3 F = (node_of w2 1, (refl, refl, refl), (omega arith, ((λ e. absurd (let no : 0 ≡ 1 = e in omega arith)), tt)), refl, (refl, tt), (get_claim (claim_at w2 1 0 (node_of w2 1)), refl, refl, refl))

step_4 : (F : Functions) → Steps F w3 (handed_in 1 0 1 1 (rows 1)) w4
step_4 F = (piece 1 0 1 1 hands_on (right_fields ∷ []) (r1 ∷ []), (0, omega arith, refl), refl, refl, refl, refl, refl, (good r1, refl, refl, refl))

step_5 : (F : Functions) → Steps F w4 (handed_in 1 0 0 0 (rows 2)) w5
step_5 F = (piece 1 0 0 0 hands_on (right_fields ∷ []) (r0 ∷ []), (0, omega arith, refl), refl, refl, refl, refl, refl, (good r0, refl, refl, refl))

step_6 : (F : Functions) → Steps F w5 (closed 1) w6
step_6 F = (node_of w5 1, (refl, refl, refl), refl, inl (refl, source_1_ends), refl)

step_7 : (F : Functions) → Steps F w6 (claimed 2 1 0 0) w7
step_7 F = (node_of w6 2, (refl, refl, refl), (omega arith, tt), refl, tt, (get_claim (claim_at w6 2 1 (node_of w6 2)), refl, refl, refl))

step_8 : (F : Functions) → Steps F w7 (claimed 2 1 1 1) w8
step_8 F = (node_of w7 2, (refl, refl, refl), (omega arith, ((λ e. absurd (let no : 0 ≡ 1 = e in omega arith)), tt)), refl, tt, (get_claim (claim_at w7 2 1 (node_of w7 2)), refl, refl, refl))

step_9 : (F : Functions) → Steps F w8 (handed_in 2 1 1 1 (rows 1)) w9
step_9 F = (piece 2 1 1 1 (keeps a_left_join) (right_fields ∷ []) (r1 ∷ []), (0, omega arith, refl), refl, refl, refl, refl, refl, (partial 1, (refl, refl), refl, refl))

step_10 : (F : Functions) → Steps F w9 (handed_in 2 1 0 0 (rows 2)) w10
step_10 F = (piece 2 1 0 0 (keeps a_left_join) (right_fields ∷ []) (r0 ∷ []), (0, omega arith, refl), refl, refl, refl, refl, refl, (partial 2, (refl, refl), refl, refl))

step_11 : (F : Functions) → Steps F w10 (closed 2) w11
step_11 F = (node_of w10 2, (refl, refl, refl), refl, inl (refl, build_ends), refl)

step_12 : (F : Functions) → Steps F w11 (ended 1) w12
step_12 F = (refl, refl, refl, ((λ h. absurd (let no : false ≡ true = h in cc)), ((λ h. refl), ((λ h. refl), ((λ h. absurd (let no : false ≡ true = h in cc)), tt)))), refl)

step_13 : (F : Functions) → Steps F w12 (opened 2) w13
step_13 F = (refl, refl, refl, (s2, second_updates F, settles second_settled refl))

step_14 : (F : Functions) → Steps F w13 (claimed 0 0 0 0) w14
step_14 F = (node_of w13 0, (refl, refl, refl), (omega arith, tt), refl, (refl, tt), (get_claim (claim_at w13 0 0 (node_of w13 0)), refl, refl, refl))

step_15 : (F : Functions) → Steps F w14 (claimed 0 0 1 1) w15
step_15 F = (node_of w14 0, (refl, refl, refl), (omega arith, ((λ e. absurd (let no : 0 ≡ 1 = e in omega arith)), tt)), refl, (refl, tt), (get_claim (claim_at w14 0 0 (node_of w14 0)), refl, refl, refl))

step_16 : (F : Functions) → Steps F w15 (handed_in 0 0 0 0 (rows 2)) w16
step_16 F = (piece 0 0 0 0 hands_on (left_fields ∷ []) (l0 ∷ []), (1, omega arith, refl), refl, refl, refl, refl, refl, (good l0, refl, refl, refl))

step_17 : (F : Functions) → Steps F w16 (handed_in 0 0 1 1 (rows 2)) w17
step_17 F = (piece 0 0 1 1 hands_on (left_fields ∷ []) (l1 ∷ []), (0, omega arith, refl), refl, refl, refl, refl, refl, (good l1, refl, refl, refl))

step_18 : (F : Functions) → Steps F w17 (closed 0) w18
step_18 F = (node_of w17 0, (refl, refl, refl), refl, inl (refl, source_0_ends), refl)

step_19 : (F : Functions) → Steps F w18 (claimed 2 0 0 0) w19
step_19 F = (node_of w18 2, (refl, refl, refl), (omega arith, tt), refl, (refl, tt), (get_claim (claim_at w18 2 0 (node_of w18 2)), refl, refl, refl))

step_20 : (F : Functions) → Steps F w19 (claimed 2 0 1 1) w20
step_20 F = (node_of w19 2, (refl, refl, refl), (omega arith, ((λ e. absurd (let no : 0 ≡ 1 = e in omega arith)), tt)), refl, (refl, tt), (get_claim (claim_at w19 2 0 (node_of w19 2)), refl, refl, refl))

step_21 : (F : Functions) → Steps F w20 (handed_in 2 0 1 1 (rows 3)) w21
step_21 F = (piece 2 0 1 1 (probes a_left_join (on_k how.Left)) both_fields (l1 ∷ right_rows ∷ []), (0, omega arith, refl), refl, refl, refl, refl, refl, (good a1, (refl, refl, refl, omega arith), refl, refl))

step_22 : (F : Functions) → Steps F w21 (handed_in 2 0 0 0 (rows 3)) w22
step_22 F = (piece 2 0 0 0 (probes a_left_join (on_k how.Left)) both_fields (l0 ∷ right_rows ∷ []), (0, omega arith, refl), refl, refl, refl, refl, refl, (good a0, (refl, refl, refl, omega arith), refl, refl))

step_23 : (F : Functions) → Steps F w22 (closed 2) w23
step_23 F = (node_of w22 2, (refl, refl, refl), refl, inl (refl, probe_ends), refl)

step_24 : (F : Functions) → Steps F w23 (pulled 3 0 0) w24
step_24 F = (node_of w23 3, (refl, refl, refl), refl, refl, (pipe 2 3 0 port.Ready port.Ready (Some a0 ∷ Some a1 ∷ []) 0 true true, a0, (2, omega arith, refl), refl, refl, refl, refl, refl, refl))

step_25 : (F : Functions) → Steps F w24 (pulled 3 0 1) w25
step_25 F = (node_of w24 3, (refl, refl, refl), refl, refl, (pipe 2 3 0 port.Ready port.Ready (Some a0 ∷ Some a1 ∷ []) 1 true true, a1, (2, omega arith, refl), refl, refl, refl, refl, refl, refl))

step_26 : (F : Functions) → Steps F w25 (closed 3) w26
step_26 F = (node_of w25 3, (refl, refl, refl), refl, inl (refl, λ i. refl), refl)

step_27 : (F : Functions) → Steps F w26 (ended 2) w27
step_27 F = (refl, refl, refl, ((λ h. refl), ((λ h. absurd (let no : false ≡ true = h in cc)), ((λ h. refl), ((λ h. refl), tt)))), refl)

step_28 : (F : Functions) → Steps F w27 (opened 3) w28
step_28 F = (refl, refl, refl, (s3, third_updates F, settles third_settled refl))

pub join_run : (F : Functions) → Replays F w0 join_journal w28
join_run F = (w1, step_1 F, (w2, step_2 F, (w3, step_3 F, (w4, step_4 F, (w5, step_5 F, (w6, step_6 F, (w7, step_7 F, (w8, step_8 F, (w9, step_9 F, (w10, step_10 F, (w11, step_11 F, (w12, step_12 F, (w13, step_13 F, (w14, step_14 F, (w15, step_15 F, (w16, step_16 F, (w17, step_17 F, (w18, step_18 F, (w19, step_19 F, (w20, step_20 F, (w21, step_21 F, (w22, step_22 F, (w23, step_23 F, (w24, step_24 F, (w25, step_25 F, (w26, step_26 F, (w27, step_27 F, (w28, step_28 F, refl))))))))))))))))))))))))))))

pub join_result : (F : Functions) → Leaves F join_shape two_workers join_journal ([] ∷ [] ∷ ([] ∷ [] ∷ []) ∷ ((a0 ∷ a1 ∷ []) ∷ []) ∷ [])
join_result F = (w28, join_run F, refl)
