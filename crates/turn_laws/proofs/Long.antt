-- An answer has a state for each port that is given.
use Rattle.std.proofs.Common.{◌≡◌, suc, ◌≤◌, Bool, true, false, cond, List, [], ◌∷◌, length, refl, ap, arith}
use Rattle.std.specs.Prelude.{◌&&◌, ◌||◌}
use Rattle.std.specs.List.{list_any}
use Rattle.ps_ports.specs.declared.port_state.PortState.{PortState}
use Rattle.ps_ports.specs.declared.port_state.PortState.TheVariants as port
use Rattle.ps_ports.specs.Ports.{Sides, all_done, first_port, is_blocked, is_done, repeated}
use Rattle.ps_meaning.specs.Shape.{PhysicalKind, equi_join, filter_node, group_by_node, in_memory_join, in_memory_map, in_memory_sink, in_memory_source, independent_select, multiplexer, negative_slice, ordered_union, reduce, select_node, simple_projection, stream_map, streaming_slice, with_row_index, zip_node}
use Rattle.ps_meaning.specs.Sound.{HasInputs, HasReaders}
use Rattle.ps_meaning.specs.Steps.{JoinStep}
use Rattle.ps_options.specs.declared.options.Options.{Options}
use Rattle.ps_settle.proofs.Members.{length_map}
use Rattle.ps_turns.specs.Claims.{owes_last}
use Rattle.ps_turns.specs.Heads.{Head}
use Rattle.ps_turns.specs.Progress.{Progress, Stage, giving, spent, taking}
use Rattle.ps_turns.specs.Updates.{answer_by, done_on_both, join_answer, keeper_answer, multiplexer_answer, passing_answer, port_answers, slice_is_over, undone_empty, union_inputs, zip_answer, zip_is_over}

pub same_length : (s : PortState) (ss : List PortState) → length (repeated s ss) ≡ length ss
same_length s ss = length_map (λ (x : PortState). s) ss

union_length : (out : PortState) (ss : List PortState) → length (union_inputs out ss) ≡ length ss
union_length out [] = refl
union_length out (port.Done ∷ ss) = ap suc (union_length out ss)
union_length out (port.Ready ∷ ss) = ap suc (same_length port.Blocked ss)
union_length out (port.Blocked ∷ ss) = ap suc (same_length port.Blocked ss)

ports_length : (s : PortState) (es : List Bool) (os : List PortState) → length (port_answers s es os) ≡ length os
ports_length s es [] = refl
ports_length s [] (o ∷ os) = ap suc (ports_length s [] os)
ports_length s (e ∷ es) (o ∷ os) = ap suc (ports_length s es os)

abbrev pub HasStates : Sides → Sides → Type 0
HasStates given a = (length given.inputs ≤ length a.inputs) × (length given.outputs ≤ length a.outputs)

one_each : (given : Sides) → length given.inputs ≡ 1 → length given.outputs ≡ 1 → HasStates given (passing_answer given)
one_each given i o = (omega arith, omega arith)

both_done : (given : Sides) → HasStates given (done_on_both given)
both_done given = (let e = same_length port.Done given.inputs in omega arith, let e = same_length port.Done given.outputs in omega arith)

of_cond : (b : Bool) (given x y : Sides) → HasStates given x → HasStates given y → HasStates given (cond b x y)
of_cond true given x y a c = a
of_cond false given x y a c = c

all_ports : (s t : PortState) (given : Sides) → length given.outputs ≡ 1 → HasStates given (record { inputs = repeated s given.inputs; outputs = t ∷ [] })
all_ports s t given o = (let e = same_length s given.inputs in omega arith, omega arith)

keepers : (stage : Stage) (given : Sides) → length given.outputs ≡ 1 → HasStates given (keeper_answer stage given)
keepers taking given o = all_ports port.Ready port.Blocked given o
keepers giving given o = all_ports port.Done port.Ready given o
keepers spent given o = all_ports port.Done port.Done given o

zips : (hs : List Head) (given : Sides) → length given.outputs ≡ 1 → HasStates given (zip_answer hs given)
zips hs given o =
    of_cond (zip_is_over hs given) given _ _ (all_ports port.Done port.Done given o)
    (of_cond (list_any is_blocked given.inputs) given _ _ (all_ports port.Blocked port.Blocked given o) (all_ports (cond (is_blocked (first_port given.outputs)) port.Blocked port.Ready) port.Ready given o))

multiplexers : (es : List Bool) (given : Sides) → length given.inputs ≡ 1 → HasStates given (multiplexer_answer es given)
multiplexers es given i =
    of_cond (all_done given.outputs || (all_done given.inputs && undone_empty es given.outputs)) given _ _ (omega arith, let e = same_length port.Done given.outputs in omega arith)
    (omega arith, let e = ports_length (first_port given.inputs) es given.outputs in omega arith)

joins : (j : JoinStep) (progress : Progress) (stage : Stage) (given : Sides) → length given.inputs ≡ 2 → length given.outputs ≡ 1 → HasStates given (join_answer j progress stage given)
joins j progress taking given i o = (omega arith, omega arith)
joins j progress giving given i o = of_cond (is_done (first_port given.inputs) && owes_last j progress) given _ _ (omega arith, omega arith) (omega arith, omega arith)
joins j progress spent given i o = (omega arith, omega arith)

-- a node that is given a state of each port that it has answers one for each
pub has_states : (o : Options) (kind : PhysicalKind) (progress : Progress) (hs : List Head) (es : List Bool) (given : Sides) → HasInputs kind (length given.inputs) → HasReaders kind (length given.outputs) → HasStates given (answer_by o kind progress hs es given)
has_states o (in_memory_source t) progress hs es given i r = (omega (arith, i), omega (arith, r))
has_states o (independent_select s) progress hs es given i r = (omega (arith, i), omega (arith, r))
has_states o (streaming_slice offset n) progress hs es given i r = of_cond (slice_is_over offset n progress.booked) given _ _ (both_done given) (one_each given i r)
has_states o in_memory_sink progress hs es given i r = (let e = same_length (cond (all_done given.inputs) port.Done port.Ready) given.inputs in omega arith, omega (arith, r))
has_states o ordered_union progress hs es given i r = (let e = union_length (first_port given.outputs) given.inputs in omega arith, omega (arith, r))
has_states o (zip_node extend) progress hs es given i r = zips hs given r
has_states o multiplexer progress hs es given i r = multiplexers es given i
has_states o (equi_join j) progress hs es given i r = joins j progress progress.stage given i r
has_states o (in_memory_map step) progress hs es given i r = keepers progress.stage given r
has_states o (in_memory_join j) progress hs es given i r = keepers progress.stage given r
has_states o (negative_slice back n) progress hs es given i r = keepers progress.stage given r
has_states o (reduce s) progress hs es given i r = keepers progress.stage given r
has_states o (group_by_node keys aggregates) progress hs es given i r = keepers progress.stage given r
has_states o (select_node s extends) progress hs es given i r = one_each given i r
has_states o (with_row_index name offset) progress hs es given i r = one_each given i r
has_states o (filter_node e) progress hs es given i r = one_each given i r
has_states o (simple_projection names) progress hs es given i r = one_each given i r
has_states o (stream_map step) progress hs es given i r = one_each given i r
