-- What is left to do in a world until its phase ends, as a list of numbers.
use Rattle.std.specs.Prelude.{ℕ, zero, suc, ◌+◌, ◌-◌, Bool, not, cond, ◌&&◌, List, [], ◌∷◌, ◌++◌, length, Option, Some, None, nat_eq, slice_get}
use Rattle.std.specs.List.{count_by}
use Rattle.ps_frame.specs.Tables.{Row}
use Rattle.ps_meaning.specs.Shape.{PhysicalKind, equi_join, group_by_node, in_memory_join, in_memory_map, in_memory_source, independent_select, negative_slice, reduce, zip_node}
use Rattle.ps_turns.specs.Heads.{stored_rows}
use Rattle.ps_turns.specs.Progress.{Progress}
use Rattle.ps_world.specs.World.{Node, Pipe, World}

-- the cuts of rows that are still to be sent, at most: a cut has a row at least, but for one cut of no rows
abbrev pub cuts_left : List Row → (sent : ℕ) → ℕ
cuts_left rs sent = length rs + 1 - sent

abbrev pub made_left : (made : Option (List Row)) → (sent : ℕ) → ℕ
made_left None sent = 0
made_left (Some rs) sent = cuts_left rs sent

-- the rows that came of each input and aren't booked
abbrev pub rows_left : (booked : ℕ) → (stores : List (List (List Row))) → ℕ
rows_left booked [] = 0
rows_left booked (ms ∷ rest) = (length (stored_rows ms) - booked) + rows_left booked rest

-- What a node may still claim of its own, at most: the cuts of its rows, the rows that a zip has not booked, its one row, the parts of a group-by, the right rows that come last.
abbrev pub own_left : PhysicalKind → Progress → ℕ
own_left (in_memory_source t) a = cuts_left t.rows a.sent
own_left (independent_select es) a = 1 - a.sent
own_left (in_memory_map step) a = made_left a.made a.sent
own_left (in_memory_join j) a = made_left a.made a.sent
own_left (negative_slice back n) a = made_left a.made a.sent
own_left (zip_node extend) a = rows_left a.booked a.stores
own_left (reduce es) a = 1 - a.sent
own_left (group_by_node keys aggregates) a = length a.lists - a.sent
own_left (equi_join j) a = 1 - a.sent
own_left _ a = 0

abbrev pub own_left_of : Option Node → ℕ
own_left_of None = 0
own_left_of (Some x) = own_left x.node.kind x.progress

abbrev pub own_left_at : World → ℕ → ℕ
own_left_at w n = own_left_of (slice_get w.nodes n)

-- the morsels of a pipe that aren't taken, also those that are claimed and still to come; a dropped pipe has lost its own
abbrev pub untaken : Pipe → ℕ
untaken p = cond p.is_dropped 0 (length p.got - p.next)

-- those in all inputs of a node
abbrev pub untaken_by : ℕ → List Pipe → ℕ
untaken_by n [] = 0
untaken_by n (p ∷ ps) = cond (nat_eq p.wire.receiver n) (untaken p) 0 + untaken_by n ps

-- of so many nodes, from the n-th on: the morsels that it has not taken, and what it may claim of its own
abbrev pub left_of_nodes : (nodes n : ℕ) → World → List ℕ
left_of_nodes zero n w = []
left_of_nodes (suc k) n w = untaken_by n w.pipes ∷ own_left_at w n ∷ left_of_nodes k (n + 1) w

-- the node stands in the phase and isn't closed
abbrev pub is_unclosed : Node → Bool
is_unclosed x = x.in_phase && not x.is_closed

-- What is left: node by node, in their order, then the pieces out, the nodes that aren't closed, and the phase itself.
abbrev pub left_to_do : World → List ℕ
left_to_do w = left_of_nodes (length w.nodes) 0 w ++ length w.outs ∷ count_by is_unclosed w.nodes ∷ cond w.is_open 1 0 ∷ []
