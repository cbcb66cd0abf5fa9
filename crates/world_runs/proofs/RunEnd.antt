-- The end of that run: the sink pulls and closes, the phase ends, and the second Open finds nothing to do.
use Rattle.std.proofs.Common.{◌≡◌, ℕ, Bool, true, false, List, [], ◌∷◌, ◌++◌, Some, refl, sym, subst, inl, arith}
use Rattle.std.specs.Prelude.{get_or}
use Rattle.ps_frame.specs.Functions.{Functions}
use Rattle.ps_ports.specs.declared.port_state.PortState.{PortState}
use Rattle.ps_ports.specs.declared.port_state.PortState.TheVariants as port
use Rattle.ps_turns.specs.Tasks.{rows}
use Rattle.ps_world.specs.World.{Pipe, Node, Record, opened, claimed, handed_in, pulled, closed, ended, finished, World}
use Rattle.world_runs.specs.Examples.{filter_journal, filter_shape, filtered, given, Leaves, one_worker}
use Rattle.ps_world.specs.Opening.{no_progress, opening}
use Rattle.ps_world.specs.Step.{Replays, Steps, settles}
use Rattle.ps_world.specs.Updates.{IsSettled, Updates, no_update, one_update}
use Rattle.world_runs.proofs.Run.{first_seven, node_at_0, node_at_1, node_at_2, w7_written}
use Rattle.world_runs.specs.Nodes.{node_of, update}
use Rattle.world_runs.proofs.Settled.{three}

-- the world with these flags, states, store and records
abbrev nodes_with : (in_phase : Bool) → (sink_closed : Bool) → (stored : List (List (List Rattle.ps_frame.specs.Tables.Row))) → List Node
nodes_with a c st =
    record { node = node_at_0; progress = record (no_progress 0) { sent = 1 }; in_phase = a; is_closed = a }
    ∷ record { node = node_at_1; progress = no_progress 1; in_phase = a; is_closed = a }
    ∷ record { node = node_at_2; progress = record (no_progress 1) { stores = st }; in_phase = a; is_closed = c } ∷ []

abbrev pipes_with : (in_phase : Bool) → (next : ℕ) → (first second : PortState × PortState) → List Pipe
pipes_with a k p q =
    record { wire = record { sender = 0; port = 0; receiver = 1; input = 0; send_state = p.0; receive_state = p.1 }; got = Some given.rows ∷ []; next = 1; in_phase = a; is_closed = a; is_dropped = false; is_unread = false }
    ∷ record { wire = record { sender = 1; port = 0; receiver = 2; input = 0; send_state = q.0; receive_state = q.1 }; got = Some filtered ∷ []; next = k; in_phase = a; is_closed = a; is_dropped = false; is_unread = false } ∷ []

abbrev seven : List Record
seven = opened 1 ∷ claimed 0 0 0 0 ∷ handed_in 0 0 0 0 (rows 3) ∷ closed 0 ∷ claimed 1 0 0 0 ∷ handed_in 1 0 0 0 (rows 2) ∷ closed 1 ∷ []

abbrev ready_both : PortState × PortState
ready_both = (port.Ready, port.Ready)

abbrev done_both : PortState × PortState
done_both = (port.Done, port.Done)

abbrev w8 : World
w8 = record w7_written { nodes = nodes_with true false ((filtered ∷ []) ∷ []); pipes = pipes_with true 1 ready_both ready_both; journal = seven ++ pulled 2 0 0 ∷ [] }

eighth : (F : Functions) → Steps F w7_written (pulled 2 0 0) w8
eighth F = (node_of w7_written 2, (refl, refl, refl), refl, refl, (get_or w7_written.pipes 1 (get_or (pipes_with true 0 ready_both ready_both) 1 (Rattle.ps_world.specs.Opening.fresh_pipe 0 0 0 0)), filtered, (1, omega arith, refl), refl, refl, refl, refl, refl, refl))

abbrev w9 : World
w9 = record w8 { nodes = nodes_with true true ((filtered ∷ []) ∷ []); journal = seven ++ pulled 2 0 0 ∷ closed 2 ∷ [] }

ninth : (F : Functions) → Steps F w8 (closed 2) w9
ninth F = (node_of w8 2, (refl, refl, refl), refl, inl (refl, λ i. refl), refl)

abbrev w10 : World
w10 = record w9 { nodes = nodes_with false false ((filtered ∷ []) ∷ []); pipes = pipes_with false 1 ready_both ready_both; is_open = false; journal = seven ++ pulled 2 0 0 ∷ closed 2 ∷ ended 1 ∷ [] }

tenth : (F : Functions) → Steps F w9 (ended 1) w10
tenth F = (refl, refl, refl, ((λ h. refl), ((λ h. refl), ((λ h. refl), tt))), refl)

-- the updates of the second Open, one after the other
abbrev u1 : World
u1 = record w10 { pipes = pipes_with false 1 (port.Done, port.Ready) ready_both }

abbrev u2 : World
u2 = record w10 { pipes = pipes_with false 1 done_both (port.Done, port.Ready) }

abbrev u3 : World
u3 = record w10 { pipes = pipes_with false 1 done_both done_both }

step_to : (F : Functions) {v : World} (w u : World) (n : ℕ) → update w n ≡ u → Rattle.ps_world.specs.Updates.TurnsAt F w n (node_of w n) (node_of w n).progress → Updates F u v → Updates F w v
step_to F {v} w u n e t us = one_update n (node_of w n) (node_of w n).progress t (subst (λ x. Updates F x v) (sym e) us)

again : (F : Functions) → Updates F w10 u3
again F = step_to F w10 u1 0 refl (refl, refl, inl (refl, refl)) (step_to F u1 u2 1 refl (refl, refl, inl (refl, refl)) (step_to F u2 u3 2 refl (refl, refl, inl (refl, refl)) no_update))

is_settled_again : IsSettled u3
is_settled_again =
    three u3 refl (record { stage = refl; states = refl; agrees = refl; filled = refl }) (record { stage = refl; states = refl; agrees = refl; filled = refl })
    (record { stage = refl; states = refl; agrees = refl; filled = refl })

abbrev w11 : World
w11 = record u3 { phase = 2; ending = finished; journal = filter_journal }

eleventh : (F : Functions) → Steps F w10 (opened 2) w11
eleventh F = (refl, refl, refl, (u3, again F, settles is_settled_again refl))

-- what leads to a world and then on leads all the way
joined : (F : Functions) (a b c : World) (rs qs : List Record) → Replays F a rs b → Replays F b qs c → Replays F a (rs ++ qs) c
joined F a b c [] qs h k = subst (λ x. Replays F x qs c) h k
joined F a b c (r ∷ rs) qs h k = (h.0, h.1, joined F h.0 b c rs qs h.2 k)

last_four : (F : Functions) → Replays F w7_written (pulled 2 0 0 ∷ closed 2 ∷ ended 1 ∷ opened 2 ∷ []) w11
last_four F = (w8, eighth F, (w9, ninth F, (w10, tenth F, (w11, eleventh F, refl))))

pub filter_run : (F : Functions) → Replays F (opening filter_shape one_worker) filter_journal w11
filter_run F = joined F (opening filter_shape one_worker) w7_written w11 seven (pulled 2 0 0 ∷ closed 2 ∷ ended 1 ∷ opened 2 ∷ []) (first_seven F) (last_four F)

pub filter_result : (F : Functions) → Leaves F filter_shape one_worker filter_journal ([] ∷ ([] ∷ []) ∷ ((filtered ∷ []) ∷ []) ∷ [])
filter_result F = (w11, filter_run F, refl)
