-- What a zip's update reads of its heads, and asks of them.
use Rattle.std.specs.Prelude.{ℕ, ◌-◌, Bool, true, ◌&&◌, ◌||◌, List, [], ◌∷◌, cond, length, map, nat_eq, not}
use Rattle.std.specs.List.{list_all, filter as kept}
use Rattle.node_states.specs.declared.heads.HeadState.{HeadState}
use Rattle.ps_frame.specs.Tables.{Row}
use Rattle.ps_frame.specs.Zip.{all_same}
use Rattle.ps_ports.specs.declared.port_state.PortState.{PortState}
use Rattle.ps_ports.specs.Ports.{Sides, all_done, first_port, is_done}
use Rattle.ps_turns.specs.Heads.{Head, stored_rows}

-- what an update reads of a head
abbrev pub head_state : Head → HeadState
head_state h = record { rows = length h.rest; broadcasts = h.broadcasts }

-- how many rows morsels have
abbrev pub rows_stored : List (List Row) → ℕ
rows_stored ms = length (stored_rows ms)

-- the heads of inputs that are given these states, and of which so many rows came
abbrev pub is_single : (extend : Bool) → PortState → (came : ℕ) → Bool
is_single extend s came = not extend && (is_done s && nat_eq came 1)

abbrev pub all_single : (extend : Bool) → List PortState → (came : List ℕ) → Bool
all_single extend [] cs = true
all_single extend (s ∷ ss) [] = true
all_single extend (s ∷ ss) (c ∷ cs) = is_single extend s c && all_single extend ss cs

abbrev pub head_from : (extend spent : Bool) → (booked : ℕ) → PortState → (came : ℕ) → HeadState
head_from extend spent booked s came = record { rows = cond (is_single extend s came && not spent) came (came - booked); broadcasts = is_single extend s came && not spent }

abbrev pub heads_from : (extend spent : Bool) → (booked : ℕ) → List PortState → (came : List ℕ) → List HeadState
heads_from extend spent booked [] cs = []
heads_from extend spent booked (s ∷ ss) [] = []
heads_from extend spent booked (s ∷ ss) (c ∷ cs) = head_from extend spent booked s c ∷ heads_from extend spent booked ss cs

abbrev pub all_broadcast : List HeadState → Bool
all_broadcast hs = list_all (λ (h : HeadState). h.broadcasts) hs

abbrev pub are_spent : List HeadState → Bool
are_spent hs = list_all (λ (h : HeadState). h.broadcasts || nat_eq h.rows 0) hs

-- the lengths of those that don't broadcast
abbrev pub open_lengths : List HeadState → List ℕ
open_lengths hs = map (λ (h : HeadState). h.rows) (kept (λ (h : HeadState). not h.broadcasts) hs)

-- the zip gives nothing more
abbrev pub is_over : List HeadState → Sides → Bool
is_over hs given = is_done (first_port given.outputs) || (all_done given.inputs && (are_spent hs && not (all_broadcast hs)))

-- its inputs are done and its output isn't, and the lengths differ
abbrev pub disagree : List HeadState → Sides → Bool
disagree hs given = all_done given.inputs && (not (is_done (first_port given.outputs)) && not (all_same (open_lengths hs)))
