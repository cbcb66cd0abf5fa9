-- What the update of a node answers, how it changes the node, and which fault it finds.
use Rattle.std.specs.Prelude.{◌≡◌, ℕ, ◌⊎◌, Bool, true, false, not, cond, ◌&&◌, ◌||◌, List, [], ◌∷◌, map, length, Option, Some, None, is_some, nat_eq, nat_lt, nat_le, get_or, IsTrue}
use Rattle.std.specs.List.{list_any, list_all}
use Rattle.ps_frame.specs.Causes.{Cause, is_empty}
use Rattle.ps_frame.specs.Functions.{Functions}
use Rattle.ps_frame.specs.Tables.{Fields, Row}
use Rattle.ps_frame.specs.Zip.{all_same}
use Rattle.ps_frame.specs.declared.value.DataFault.TheVariants as data_fault
use Rattle.ps_meaning.specs.Cases.{end_of}
use Rattle.ps_meaning.specs.Shape.{PhysicalKind, PhysicalNode, equi_join, group_by_node, in_memory_join, in_memory_map, in_memory_sink, in_memory_source, independent_select, multiplexer, negative_slice, ordered_union, reduce, streaming_slice, zip_node}
use Rattle.ps_meaning.specs.Steps.{JoinStep}
use Rattle.ps_ports.specs.declared.port_state.PortState.{PortState}
use Rattle.ps_ports.specs.Ports.{Sides, all_blocked, all_done, first_port, is_blocked, is_done, keeping_done, repeated, second_port}
use Rattle.ps_ports.specs.declared.port_state.PortState.TheVariants as port
use Rattle.ps_turns.specs.Claims.{all_taken, owes_last}
use Rattle.ps_turns.specs.Cuts.{is_exhausted}
use Rattle.ps_turns.specs.Ends.{rows_at_end}
use Rattle.ps_turns.specs.Heads.{Head, head_lengths, stored_rows}
use Rattle.ps_turns.specs.Keys.{IsSplit}
use Rattle.ps_options.specs.declared.options.Options.{Options}
use Rattle.ps_turns.specs.Progress.{Progress, Stage, giving, is_giving, is_taking, is_user_map, keeps_input, makes_table, spent, taking}
use Rattle.ps_turns.specs.Results.{BreaksRows, IsMade}
use Rattle.ps_turns.specs.Tables.{whole_tables}

abbrev pub exhausted_rows : Options → ℕ → Option (List Row) → Bool
exhausted_rows o sent None = false
exhausted_rows o sent (Some rs) = is_exhausted o rs sent

-- nothing is left of what the node gives by itself
abbrev pub has_given_all : Options → PhysicalKind → Progress → Bool
has_given_all o (in_memory_source t) progress = is_exhausted o t.rows progress.sent
has_given_all o (independent_select es) progress = nat_lt 0 progress.sent
has_given_all o (in_memory_map step) progress = exhausted_rows o progress.sent progress.made
has_given_all o (in_memory_join j) progress = exhausted_rows o progress.sent progress.made
has_given_all o (negative_slice back n) progress = exhausted_rows o progress.sent progress.made
has_given_all o (reduce es) progress = nat_lt 0 progress.sent
has_given_all o (group_by_node keys aggregates) progress = nat_le (length progress.lists) progress.sent
has_given_all o (equi_join j) progress = not (owes_last j progress)
has_given_all o _ progress = false

-- The stage after an update: a node whose output is done is spent, before its inputs are looked at; else it gives once its inputs are done, and is spent once it gave all.
abbrev pub next_stage : Stage → (output_done inputs_done gave_all : Bool) → Stage
next_stage stage true ins all = spent
next_stage taking false true all = giving
next_stage giving false ins true = spent
next_stage stage false ins all = stage

-- what keeps its input and gives what it makes of it
abbrev pub turns : PhysicalKind → Bool
turns in_memory_sink = false
turns kind = keeps_input kind

-- a map of a handed-in function takes its input until its table was filled in
abbrev pub is_filled : PhysicalKind → Progress → Bool
is_filled kind progress = not (is_user_map kind) || is_some progress.made

-- An equi join builds until its right input is done, and probes until its left one is done and it gave all.
abbrev pub stage_after : Options → PhysicalKind → Progress → Sides → Stage
stage_after o (equi_join j) progress given =
    next_stage progress.stage (is_done (first_port given.outputs)) (is_done (second_port given.inputs)) (is_done (first_port given.inputs) && has_given_all o (equi_join j) progress)
stage_after o kind progress given =
    cond (turns kind) (next_stage progress.stage (is_done (first_port given.outputs)) (all_done given.inputs && is_filled kind progress) (has_given_all o kind progress)) progress.stage

-- whether the update turns a node that took its input into one that gives
abbrev pub starts_giving : Options → PhysicalKind → Progress → Sides → Bool
starts_giving o kind progress given = not (is_giving progress.stage) && is_giving (stage_after o kind progress given)

-- the rows that were stored, input by input
abbrev pub stored_tables : Progress → List (List Row)
stored_tables progress = map stored_rows progress.stores

-- a map of a handed-in function whose input is done, whose output isn't, and whose table is missing
abbrev pub is_waiting : PhysicalKind → Progress → Sides → Bool
is_waiting kind progress given = (is_user_map kind && (is_taking progress.stage && not (is_some progress.made))) && (all_done given.inputs && not (is_done (first_port given.outputs)))

-- What a node makes where it starts to give: a table of its stored rows (but a map of a handed-in function has it by then; a negative slice goes by its count), or lists of keys.
abbrev pub Makes : Functions → Options → PhysicalNode → PhysicalKind → List Fields → Progress → Progress → Type 0
Makes F o p (in_memory_map step) ss a b =
    (IsTrue (is_user_map (in_memory_map step)) × (b ≡ a)) ⊎ (IsTrue (not (is_user_map (in_memory_map step))) × (rs : List Row) × IsMade F p (whole_tables ss (stored_tables a)) rs × (b ≡ record a { made = Some rs }))
Makes F o p (in_memory_join j) ss a b = (rs : List Row) × IsMade F p (whole_tables ss (stored_tables a)) rs × (b ≡ record a { made = Some rs })
Makes F o p (group_by_node keys aggregates) ss a b = (lists : List (List Row)) × IsSplit p (whole_tables ss (all_taken a)) o.partitions lists × (b ≡ record a { lists = lists })
Makes F o p (negative_slice back n) ss a b = b ≡ record a { made = Some (rows_at_end back n a.booked (stored_rows (get_or a.stores 0 []))) }
Makes F o p _ ss a b = b ≡ a

-- the node's progress before and after an update that finds no fault
abbrev pub Turns : Functions → Options → PhysicalNode → List Fields → Sides → Progress → Progress → Type 0
Turns F o p ss given a b =
    (IsTrue (not (starts_giving o p.kind a given)) × (b ≡ record a { stage = stage_after o p.kind a given }))
    ⊎ (IsTrue (starts_giving o p.kind a given) × (c : Progress) × Makes F o p p.kind ss a c × (b ≡ record c { stage = giving }))

-- a waiting map is filled with its table
abbrev pub Fills : Functions → PhysicalNode → List Fields → Sides → Progress → Progress → Type 0
Fills F p ss given a b = IsTrue (is_waiting p.kind a given) × (rs : List Row) × IsMade F p (whole_tables ss (stored_tables a)) rs × (b ≡ record a { made = Some rs })

-- Without extension, the heads of a zip can't agree: all inputs are done, the output isn't, and those that don't broadcast have several lengths.
abbrev pub heads_differ : List Head → Sides → Bool
heads_differ hs given = all_done given.inputs && (not (is_done (first_port given.outputs)) && not (all_same (head_lengths false hs)))

abbrev pub shape_fault : PhysicalNode → PhysicalKind → List Head → Sides → Option Cause
shape_fault p (zip_node false) hs given = cond (heads_differ hs given) (Some (record { fault = data_fault.Shape; node = p.origin })) None
shape_fault p _ hs given = None

-- a cause by which an update or a fill makes no table
abbrev pub BreaksTable : Functions → Options → PhysicalNode → List Fields → Sides → Progress → Cause → Type 0
BreaksTable F o p ss given a c =
    IsTrue (makes_table p.kind && (is_waiting p.kind a given || (starts_giving o p.kind a given && not (is_user_map p.kind)))) × BreaksRows F p (whole_tables ss (stored_tables a)) c

-- a source, and what acts as one
abbrev pub source_state : Bool → PortState → PortState
source_state exhausted out = cond (is_done out || exhausted) port.Done port.Ready

-- a union passes its first input that isn't done; later ones are blocked
abbrev pub union_inputs : PortState → List PortState → List PortState
union_inputs out [] = []
union_inputs out (port.Done ∷ ss) = port.Done ∷ union_inputs out ss
union_inputs out (_ ∷ ss) = out ∷ repeated port.Blocked ss

abbrev pub union_output : List PortState → PortState
union_output [] = port.Done
union_output (port.Done ∷ ss) = union_output ss
union_output (s ∷ ss) = s

abbrev pub slice_is_over : ℕ → ℕ → ℕ → Bool
slice_is_over offset n booked = nat_eq n 0 || nat_le (end_of offset n) booked

abbrev pub zip_is_over : List Head → Sides → Bool
zip_is_over hs given = is_done (first_port given.outputs) || (all_done given.inputs && (list_all (λ (h : Head). h.broadcasts || is_empty h.rest) hs && not (list_all (λ (h : Head). h.broadcasts) hs)))

abbrev pub zip_answer : List Head → Sides → Sides
zip_answer hs given =
    cond (zip_is_over hs given) (record { inputs = repeated port.Done given.inputs; outputs = port.Done ∷ [] })
    (cond (list_any is_blocked given.inputs) (record { inputs = repeated port.Blocked given.inputs; outputs = port.Blocked ∷ [] })
    (record { inputs = repeated (cond (is_blocked (first_port given.outputs)) port.Blocked port.Ready) given.inputs; outputs = port.Ready ∷ [] }))

-- which of a multiplexer's outputs get the input's state: those whose pipe is empty
abbrev pub port_answers : PortState → (empties : List Bool) → List PortState → List PortState
port_answers s es [] = []
port_answers s [] (o ∷ os) = s ∷ port_answers s [] os
port_answers s (e ∷ es) (o ∷ os) = cond e s port.Ready ∷ port_answers s es os

abbrev pub undone_empty : (empties : List Bool) → List PortState → Bool
undone_empty es [] = true
undone_empty [] (o ∷ os) = true
undone_empty (e ∷ es) (o ∷ os) = (is_done o || e) && undone_empty es os

abbrev pub multiplexer_answer : (empties : List Bool) → Sides → Sides
multiplexer_answer es given =
    cond (all_done given.outputs || (all_done given.inputs && undone_empty es given.outputs)) (record { inputs = port.Done ∷ []; outputs = repeated port.Done given.outputs })
    (record { inputs = cond (all_blocked given.outputs) port.Blocked port.Ready ∷ []; outputs = port_answers (first_port given.inputs) es given.outputs })

-- what keeps its input, by its stage after the update
abbrev pub keeper_answer : Stage → Sides → Sides
keeper_answer taking given = record { inputs = repeated port.Ready given.inputs; outputs = port.Blocked ∷ [] }
keeper_answer giving given = record { inputs = repeated port.Done given.inputs; outputs = port.Ready ∷ [] }
keeper_answer spent given = record { inputs = repeated port.Done given.inputs; outputs = port.Done ∷ [] }

-- an equi join, by its stage after the update: while it probes it passes its left input, and is ready to its output until it gave all
abbrev pub join_answer : JoinStep → Progress → Stage → Sides → Sides
join_answer j progress taking given = record { inputs = port.Blocked ∷ port.Ready ∷ []; outputs = port.Blocked ∷ [] }
join_answer j progress giving given =
    cond (is_done (first_port given.inputs) && owes_last j progress) (record { inputs = port.Done ∷ port.Done ∷ []; outputs = port.Ready ∷ [] })
    (record { inputs = first_port given.outputs ∷ port.Done ∷ []; outputs = first_port given.inputs ∷ [] })
join_answer j progress spent given = record { inputs = port.Done ∷ port.Done ∷ []; outputs = port.Done ∷ [] }

abbrev pub passing_answer : Sides → Sides
passing_answer given = record { inputs = given.outputs; outputs = given.inputs }

abbrev pub done_on_both : Sides → Sides
done_on_both given = record { inputs = repeated port.Done given.inputs; outputs = repeated port.Done given.outputs }

-- The answer by kind, of the node after its turn. empties says which outgoing pipes are empty.
abbrev pub answer_by : Options → PhysicalKind → Progress → List Head → (empties : List Bool) → Sides → Sides
answer_by o (in_memory_source t) progress hs es given = record { inputs = []; outputs = source_state (has_given_all o (in_memory_source t) progress) (first_port given.outputs) ∷ [] }
answer_by o (independent_select s) progress hs es given = record { inputs = []; outputs = source_state (has_given_all o (independent_select s) progress) (first_port given.outputs) ∷ [] }
answer_by o (streaming_slice offset n) progress hs es given = cond (slice_is_over offset n progress.booked) (done_on_both given) (passing_answer given)
answer_by o in_memory_sink progress hs es given = record { inputs = repeated (cond (all_done given.inputs) port.Done port.Ready) given.inputs; outputs = [] }
answer_by o ordered_union progress hs es given = record { inputs = union_inputs (first_port given.outputs) given.inputs; outputs = union_output given.inputs ∷ [] }
answer_by o (zip_node extend) progress hs es given = zip_answer hs given
answer_by o multiplexer progress hs es given = multiplexer_answer es given
answer_by o (equi_join j) progress hs es given = join_answer j progress progress.stage given
answer_by o kind progress hs es given = cond (turns kind) (keeper_answer progress.stage given) (passing_answer given)

abbrev pub answer_of : Options → PhysicalNode → Progress → List Head → (empties : List Bool) → Sides → Sides
answer_of o p progress hs es given = keeping_done given (answer_by o p.kind progress hs es given)
