-- Small worlds of one node and its pipes, in the middle of a phase.
use Rattle.std.specs.Prelude.{ℕ, Bool, true, false, List, [], ◌∷◌, Option, Some, None, codes, pos}
use Rattle.std.proofs.Math.Facts.{leb_yes}
use Rattle.ps_frame.specs.Tables.{Fields, Row}
use Rattle.ps_frame.specs.Trees.{Tree}
use Rattle.ps_frame.specs.declared.value.DataType.TheVariants as kind
use Rattle.ps_frame.specs.declared.value.Value.TheVariants as val
use Rattle.ps_meaning.specs.Shape.{PhysicalKind, PhysicalNode, equi_join, group_by_node, in_memory_source, multiplexer, negative_slice, ordered_union, reduce, with_row_index, zip_node}
use Rattle.ps_meaning.specs.Steps.{JoinStep}
use Rattle.ps_meaning.specs.declared.options.JoinType.TheVariants as how
use Rattle.ps_meaning.specs.declared.options.JoinValidation.TheVariants as validation
use Rattle.ps_options.specs.declared.options.Options.{Options}
use Rattle.ps_ports.specs.Ports.{is_ready}
use Rattle.ps_ports.specs.declared.port_state.PortState.{PortState}
use Rattle.ps_ports.specs.declared.port_state.PortState.TheVariants as port
use Rattle.ps_turns.specs.Progress.{Progress, giving, spent, taking}
use Rattle.ps_turns.specs.Tasks.{Piece, Task, computes, hands_on, keeps, probes}
use Rattle.ps_world.specs.World.{Node, Pipe, World, running}

-- two workers, and morsels of one row
abbrev pub two_workers : Options
two_workers =
    record {
      workers = 2;
      morsel_rows = 1;
      partitions = 2;
      seed = 0;
      some_workers = leb_yes tt;
      few_workers = leb_yes tt;
      some_rows = leb_yes tt;
      few_rows = leb_yes tt;
      some_partitions = leb_yes tt;
      few_partitions = leb_yes tt;
    }

abbrev pub a_schema : Fields
a_schema = (codes "a", kind.Int64) ∷ []

abbrev pub row : ℕ → Row
row n = val.Int64 (pos n) ∷ []

abbrev pub physical : PhysicalKind → List (ℕ × ℕ) → PhysicalNode
physical k inputs = record { kind = k; schema = a_schema; origin = 0; inputs = inputs }

abbrev pub slots : Type 0
slots = List (Option (List Row))

abbrev pub came : Row → Option (List Row)
came r = Some (r ∷ [])

-- a pipe that got these, of which its reader took so many
abbrev pub pipe : (sender receiver input : ℕ) → PortState → slots → (next : ℕ) → Pipe
pipe s r i send got k =
    record { wire = record { sender = s; port = 0; receiver = r; input = i; send_state = send; receive_state = send }; got = got; next = k; in_phase = is_ready send; is_closed = false; is_dropped = false; is_unread = false }

abbrev pub progress_of : (sent booked : ℕ) → (stores : List (List (List Row))) → Progress
progress_of sent booked stores = record { stage = taking; sent = sent; booked = booked; stores = stores; taken = []; made = None; lists = [] }

abbrev pub world : List Node → List Pipe → List Piece → World
world nodes pipes outs = record { options = two_workers; nodes = nodes; pipes = pipes; outs = outs; phase = 1; is_open = true; journal = []; ending = running }

abbrev pub node_of : PhysicalKind → List (ℕ × ℕ) → Progress → Node
node_of k inputs progress = record { node = physical k inputs; progress = progress; in_phase = true; is_closed = false }

-- a piece of a node, of its first input
abbrev pub piece : (node number worker : ℕ) → Task → List Fields → List (List Row) → Piece
piece n k worker task ss tables = record { node = n; input = 0; number = k; worker = worker; gives = k; task = task; schemas = ss; tables = tables }

-- a source of three rows, of which two are claimed
abbrev pub three_rows : List Row
three_rows = row 1 ∷ row 2 ∷ row 3 ∷ []

abbrev pub a_source : Node
a_source = node_of (in_memory_source (record { schema = a_schema; rows = three_rows })) [] (progress_of 2 0 [])

abbrev pub handing : (number : ℕ) → List Row → Piece
handing k rows = piece 0 k 0 hands_on (a_schema ∷ []) (rows ∷ [])

abbrev pub source_world : PortState → slots → List Piece → World
source_world send got outs = world (a_source ∷ []) (pipe 0 1 0 send got 0 ∷ []) outs

-- a union of two inputs, of which it read a morsel each
abbrev pub a_union : Node
a_union = node_of ordered_union ((0, 0) ∷ (1, 0) ∷ []) (progress_of 2 0 [])

abbrev pub union_pipes : PortState → slots → List Pipe
union_pipes first out = pipe 0 2 0 first (came (row 1) ∷ []) 1 ∷ pipe 1 2 1 port.Ready (came (row 2) ∷ came (row 3) ∷ []) 1 ∷ pipe 2 3 0 port.Ready out 0 ∷ []

abbrev pub a_sender : Node
a_sender = node_of (in_memory_source (record { schema = a_schema; rows = three_rows })) [] (progress_of 0 0 [])

abbrev pub union_world : PortState → slots → World
union_world first out = world (a_sender ∷ a_sender ∷ a_union ∷ []) (union_pipes first out) (piece 2 0 0 hands_on (a_schema ∷ a_schema ∷ []) ((row 1 ∷ []) ∷ []) ∷ [])

-- a zip of an input of three rows and one of a single row
abbrev pub a_zip_of : (stores : List (List (List Row))) → Node
a_zip_of stores = node_of (zip_node false) ((0, 0) ∷ (1, 0) ∷ []) (progress_of 2 3 stores)

abbrev pub all_read : List (List (List Row))
all_read = ((row 1 ∷ []) ∷ (row 2 ∷ row 3 ∷ []) ∷ []) ∷ ((row 7 ∷ []) ∷ []) ∷ []

abbrev pub a_zip : Node
a_zip = a_zip_of all_read

abbrev pub long_input : Pipe
long_input = pipe 0 2 0 port.Done (came (row 1) ∷ Some (row 2 ∷ row 3 ∷ []) ∷ []) 2

abbrev pub single_input : PortState → Pipe
single_input send = pipe 1 2 1 send (came (row 7) ∷ []) 1

-- what it computes for the cuts of two rows and of one
abbrev pub zip_piece : (number : ℕ) → (first second : List Row) → Piece
zip_piece k first second = piece 2 k k (computes (physical (zip_node false) ((0, 0) ∷ (1, 0) ∷ []))) (a_schema ∷ a_schema ∷ []) (first ∷ second ∷ [])

abbrev pub zip_out : (dropped : Bool) → Pipe
zip_out dropped = record (pipe 2 3 0 port.Ready (None ∷ None ∷ []) 0) { is_dropped = dropped }

abbrev pub zip_world_of : (stores : List (List (List Row))) (dropped : Bool) → PortState → List Piece → World
zip_world_of stores dropped single outs = world (a_sender ∷ a_sender ∷ a_zip_of stores ∷ []) (long_input ∷ single_input single ∷ zip_out dropped ∷ []) outs

abbrev pub zip_world : PortState → List Piece → World
zip_world single outs = zip_world_of all_read false single outs

abbrev pub both_cuts : List Piece
both_cuts = zip_piece 0 (row 1 ∷ row 2 ∷ []) (row 7 ∷ []) ∷ zip_piece 1 (row 3 ∷ []) (row 7 ∷ []) ∷ []

-- the second cut has a row of the first once more
abbrev pub overlapping : List Piece
overlapping = zip_piece 0 (row 1 ∷ row 2 ∷ []) (row 7 ∷ []) ∷ zip_piece 1 (row 2 ∷ row 3 ∷ []) (row 7 ∷ []) ∷ []

-- a slice of one row from two before the end, which read three rows
abbrev pub an_end : List (List Row) → Node
an_end store = node_of (negative_slice 2 1) ((0, 0) ∷ []) (progress_of 0 3 (store ∷ []))

abbrev pub end_world : List (List Row) → World
end_world store = world (a_sender ∷ an_end store ∷ []) (pipe 0 1 0 port.Ready (came (row 1) ∷ Some (row 2 ∷ row 3 ∷ []) ∷ []) 2 ∷ pipe 1 2 0 port.Blocked [] 0 ∷ []) []

-- a reduce that took two morsels, and its pieces
abbrev pub a_reduce : slots → Node
a_reduce kept = node_of (reduce []) ((0, 0) ∷ []) (record { stage = taking; sent = 0; booked = 0; stores = []; taken = kept ∷ []; made = None; lists = [] })

abbrev pub keeping : (number : ℕ) → List Row → Piece
keeping k rows = piece 1 k k (keeps (physical (reduce []) ((0, 0) ∷ []))) (a_schema ∷ []) (rows ∷ [])

abbrev pub reduce_world : slots → List Piece → World
reduce_world kept outs = world (a_sender ∷ a_reduce kept ∷ []) (pipe 0 1 0 port.Ready (came (row 1) ∷ came (row 2) ∷ []) 2 ∷ pipe 1 2 0 port.Blocked [] 0 ∷ []) outs

-- a group-by of rows with two keys, and lists of these keys
abbrev pub by_a : PhysicalNode
by_a = physical (group_by_node ((codes "a", Tree.column (codes "a")) ∷ []) []) ((0, 0) ∷ [])

abbrev pub grouped_rows : List Row
grouped_rows = row 1 ∷ row 2 ∷ row 1 ∷ []

abbrev pub both_lists : List (List Row)
both_lists = (row 1 ∷ []) ∷ (row 2 ∷ []) ∷ []

-- a group-by that gave the rows of both lists, with what it kept of its one morsel
abbrev pub a_group_by : (kept : slots) → Node
a_group_by kept = node_of (group_by_node ((codes "a", Tree.column (codes "a")) ∷ []) []) ((0, 0) ∷ []) (record { stage = spent; sent = 2; booked = 0; stores = []; taken = kept ∷ []; made = None; lists = both_lists })

abbrev pub group_world : (kept : slots) → World
group_world kept = world (a_sender ∷ a_group_by kept ∷ []) (pipe 0 1 0 port.Done (Some grouped_rows ∷ []) 1 ∷ pipe 1 2 0 port.Done (came (row 1) ∷ came (row 2) ∷ []) 0 ∷ []) []

-- a join by equal keys that probes: it kept two right rows, and took two left morsels
abbrev pub on_a : JoinStep
on_a = record { left_on = Tree.column (codes "a") ∷ []; right_on = Tree.column (codes "a") ∷ []; args = record { how = how.Inner; suffix = None; join_nulls = false; validation = validation.ManyToMany; slice = None } }

abbrev pub a_join : Node
a_join = node_of (equi_join on_a) ((0, 0) ∷ (1, 0) ∷ []) (record { stage = giving; sent = 0; booked = 0; stores = []; taken = [] ∷ (came (row 2) ∷ came (row 3) ∷ []) ∷ []; made = None; lists = [] })

abbrev pub probing : (number : ℕ) → (left right : List Row) → Piece
probing k left right = piece 2 k k (probes (physical (equi_join on_a) ((0, 0) ∷ (1, 0) ∷ [])) on_a) (a_schema ∷ a_schema ∷ []) (left ∷ right ∷ [])

abbrev pub left_read : (next : ℕ) → Pipe
left_read next = pipe 0 2 0 port.Ready (came (row 1) ∷ came (row 2) ∷ []) next

abbrev pub left_input : Pipe
left_input = left_read 2

abbrev pub right_input : Pipe
right_input = pipe 1 2 1 port.Done (came (row 2) ∷ came (row 3) ∷ []) 2

abbrev pub join_world_of : (read : ℕ) → List Piece → World
join_world_of read outs = world (a_sender ∷ a_sender ∷ a_join ∷ []) (left_read read ∷ right_input ∷ pipe 2 3 0 port.Ready (None ∷ None ∷ []) 0 ∷ []) outs

abbrev pub join_world : List Piece → World
join_world outs = join_world_of 2 outs

-- the same join, whose left input had no morsel, once it is spent, with what it kept of the right rows
abbrev pub a_spent_join : (kept : slots) → Node
a_spent_join kept = node_of (equi_join on_a) ((0, 0) ∷ (1, 0) ∷ []) (record { stage = spent; sent = 0; booked = 0; stores = []; taken = [] ∷ kept ∷ []; made = None; lists = [] })

abbrev pub spent_world : (kept : slots) → World
spent_world kept = world (a_sender ∷ a_sender ∷ a_spent_join kept ∷ []) (pipe 0 2 0 port.Done [] 0 ∷ right_input ∷ pipe 2 3 0 port.Done [] 0 ∷ []) []

-- a row index that took two morsels
abbrev pub an_index : (booked : ℕ) → Node
an_index booked = node_of (with_row_index (codes "i") None) ((0, 0) ∷ []) (progress_of 0 booked [])

abbrev pub indexing : (number from : ℕ) → List Row → Piece
indexing k from rows = piece 1 k k (computes (physical (with_row_index (codes "i") (Some from)) ((0, 0) ∷ []))) (a_schema ∷ []) (rows ∷ [])

abbrev pub index_world : (booked : ℕ) → List Piece → World
index_world booked outs = world (a_sender ∷ an_index booked ∷ []) (pipe 0 1 0 port.Ready (Some (row 1 ∷ row 2 ∷ []) ∷ came (row 3) ∷ []) 2 ∷ pipe 1 2 0 port.Ready (None ∷ None ∷ []) 0 ∷ []) outs

-- a multiplexer that read two morsels into its two ports, of which the second's reader was done after the first
abbrev pub a_port : (port receiver : ℕ) → PortState → slots → Pipe
a_port k r receive got = record { wire = record { sender = 1; port = k; receiver = r; input = 0; send_state = port.Ready; receive_state = receive }; got = got; next = 0; in_phase = false; is_closed = false; is_dropped = false; is_unread = false }

abbrev pub ports_world : (first second : slots) → World
ports_world first second =
    world (a_sender ∷ node_of multiplexer ((0, 0) ∷ []) (progress_of 0 0 []) ∷ [])
    (pipe 0 1 0 port.Ready (came (row 1) ∷ came (row 2) ∷ came (row 3) ∷ []) 2 ∷ a_port 0 2 port.Blocked first ∷ a_port 1 3 port.Done second ∷ []) []
