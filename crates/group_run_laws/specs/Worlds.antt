-- Small worlds of a source, one node that keeps its input, and a sink, with two workers and morsels of one row.
use Rattle.std.specs.Prelude.{ℕ, false, true, List, [], ◌∷◌, Some, None, codes, negsuc}
use Rattle.ps_frame.specs.Causes.{Cause}
use Rattle.ps_frame.specs.Tables.{Fields, Row}
use Rattle.ps_frame.specs.Trees.{Tree}
use Rattle.ps_frame.specs.declared.value.DataFault.TheVariants as data_fault
use Rattle.ps_frame.specs.declared.value.DataType.TheVariants as kind
use Rattle.ps_frame.specs.declared.value.Value.TheVariants as val
use Rattle.ps_meaning.specs.Shape.{PhysicalKind, PhysicalNode, group_by_node, in_memory_map, in_memory_sink, in_memory_source, negative_slice, reduce}
use Rattle.ps_meaning.specs.Steps.{Named, Step, select}
use Rattle.ps_ports.specs.declared.port_state.PortState.{PortState}
use Rattle.ps_ports.specs.declared.port_state.PortState.TheVariants as port
use Rattle.ps_turns.specs.Progress.{Progress, giving}
use Rattle.ps_turns.specs.Tasks.{Piece, gives_part}
use Rattle.ps_world.specs.World.{Node, Pipe, Record, World, running}
use Rattle.world_families.specs.Examples.{a_schema, came, pipe, progress_of, row, slots, two_workers}

-- a node of these worlds, number 1, which has its input's schema unless told
abbrev pub kept_node : PhysicalKind → Fields → PhysicalNode
kept_node k s = record { kind = k; schema = s; origin = 1; inputs = (0, 0) ∷ [] }

abbrev pub at_work : PhysicalNode → Progress → Node
at_work p progress = record { node = p; progress = progress; in_phase = true; is_closed = false }

-- a source that sent both of its rows
abbrev pub both_sent : (first second : Row) → Node
both_sent first second =
    record { node = record { kind = in_memory_source (record { schema = a_schema; rows = first ∷ second ∷ [] }); schema = a_schema; origin = 0; inputs = [] }; progress = progress_of 2 0 []; in_phase = false; is_closed = false }

abbrev pub empty_sink : Fields → Node
empty_sink s = record { node = record { kind = in_memory_sink; schema = s; origin = 2; inputs = (1, 0) ∷ [] }; progress = progress_of 0 0 ([] ∷ []); in_phase = true; is_closed = false }

-- the pipe to the node, of which both rows were taken, and the one that leaves it
abbrev pub both_taken : PortState → (first second : Row) → Pipe
both_taken state first second = pipe 0 1 0 state (came first ∷ came second ∷ []) 2

abbrev pub kept_world : (journal : List Record) (first second : Row) → Node → PortState → PortState → slots → List Piece → World
kept_world journal first second node entering leaving given outs =
    record { options = two_workers; nodes = both_sent first second ∷ node ∷ empty_sink node.node.schema ∷ []; pipes = both_taken entering first second ∷ pipe 1 2 0 leaving given 0 ∷ []; outs = outs; phase = 2; is_open = true; journal = journal; ending = running }

-- A SLICE FROM THE END
-- the last row, of two that came
abbrev pub a_tail : (store : List (List Row)) → Node
a_tail store = at_work (kept_node (negative_slice 1 1) a_schema) (progress_of 0 2 (store ∷ []))

abbrev pub tail_world : (journal : List Record) (store : List (List Row)) → World
tail_world journal store = kept_world journal (row 1) (row 2) (a_tail store) port.Ready port.Blocked [] []

-- A MAP OVER A WHOLE TABLE
-- its numbers as row numbers, which no number below 0 is
abbrev pub as_numbers : Step
as_numbers = select ((codes "a", Tree.cast kind.IdxSize true (Tree.column (codes "a"))) ∷ [])

abbrev pub number : ℕ → Row
number n = val.IdxSize n ∷ []

abbrev pub below_zero : Row
below_zero = val.Int64 (negsuc 0) ∷ []

abbrev pub no_number : Cause
no_number = record { fault = data_fault.StrictCast; node = 1 }

abbrev pub a_map : PhysicalNode
a_map = kept_node (in_memory_map as_numbers) ((codes "a", kind.IdxSize) ∷ [])

-- it stored both rows, and the Open that finds its input done has begun
abbrev pub stored_both : (journal : List Record) (second : Row) → World
stored_both journal second = record (kept_world journal (row 1) second (at_work a_map (progress_of 0 0 (((row 1 ∷ []) ∷ (second ∷ []) ∷ []) ∷ []))) port.Done port.Blocked [] []) { is_open = false }

-- it made its table, and sent nothing yet
abbrev pub made_numbers : (second : Row) → Node
made_numbers second = at_work a_map (record { stage = giving; sent = 0; booked = 0; stores = ((row 1 ∷ []) ∷ (second ∷ []) ∷ []) ∷ []; taken = []; made = Some (number 1 ∷ number 2 ∷ []); lists = [] })

abbrev pub made_world : (journal : List Record) (second : Row) → World
made_world journal second = kept_world journal (row 1) second (made_numbers second) port.Done port.Ready [] []

-- A REDUCE
-- to the number of its rows, which it gave
abbrev pub count_rows : List Named
count_rows = (codes "n", Tree.len) ∷ []

abbrev pub a_count : Node
a_count = at_work (kept_node (reduce count_rows) ((codes "n", kind.IdxSize) ∷ [])) (record { stage = giving; sent = 1; booked = 0; stores = []; taken = (came (row 1) ∷ came (row 2) ∷ []) ∷ []; made = None; lists = [] })

abbrev pub count_world : (journal : List Record) (given : Row) → World
count_world journal given = kept_world journal (row 1) (row 2) a_count port.Done port.Ready (came given ∷ []) []

-- A GROUP-BY
-- by its rows, whose two keys stand in two lists: the rows of the second came, and the first is out
abbrev pub by_row : PhysicalNode
by_row = kept_node (group_by_node ((codes "a", Tree.column (codes "a")) ∷ []) []) a_schema

abbrev pub a_split : Node
a_split = at_work by_row (record { stage = giving; sent = 2; booked = 0; stores = []; taken = (came (row 1) ∷ came (row 2) ∷ []) ∷ []; made = None; lists = (row 1 ∷ []) ∷ (row 2 ∷ []) ∷ [] })

abbrev pub first_list : Piece
first_list = record { node = 1; input = 0; number = 0; worker = 0; gives = 0; task = gives_part by_row (row 1 ∷ []); schemas = a_schema ∷ []; tables = (row 1 ∷ row 2 ∷ []) ∷ [] }

abbrev pub split_world : (journal : List Record) (second : Row) → World
split_world journal second = kept_world journal (row 1) (row 2) a_split port.Done port.Ready (None ∷ came second ∷ []) (first_list ∷ [])
