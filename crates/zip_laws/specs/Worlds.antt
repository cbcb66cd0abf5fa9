-- A run of a zip whose second input has one row, the worlds that it leads to, and small worlds of a multiplexer.
use Rattle.std.specs.Prelude.{ℕ, true, false, List, [], ◌∷◌, ◌++◌, Some, None, codes, pos}
use Rattle.std.proofs.Math.Facts.{leb_yes}
use Rattle.ps_frame.specs.Tables.{Fields, Row}
use Rattle.ps_frame.specs.declared.value.DataType.TheVariants as kind
use Rattle.ps_frame.specs.declared.value.Value.{Value}
use Rattle.ps_frame.specs.declared.value.Value.TheVariants as val
use Rattle.ps_meaning.specs.Shape.{PhysicalKind, PhysicalNode, Shape, in_memory_sink, in_memory_source, multiplexer, ordered_union, streaming_slice, zip_node}
use Rattle.ps_options.specs.declared.options.Options.{Options}
use Rattle.ps_ports.specs.declared.port_state.PortState.TheVariants as port
use Rattle.ps_turns.specs.Progress.{Progress}
use Rattle.ps_turns.specs.Tasks.{Piece, computes, rows}
use Rattle.ps_world.specs.Opening.{no_progress}
use Rattle.ps_world.specs.World.{Node, Pipe, Record, World, claimed, closed, ended, handed_in, opened, pulled, running}
use Rattle.world_families.specs.Examples.{a_schema, came, pipe, row, slots, two_workers}

abbrev pub source_of : Fields → (origin : ℕ) → List Row → PhysicalNode
source_of s origin rs = record { kind = in_memory_source (record { schema = s; rows = rs }); schema = s; origin = origin; inputs = [] }

abbrev pub read_by : PhysicalKind → Fields → (origin : ℕ) → List (ℕ × ℕ) → PhysicalNode
read_by k s origin inputs = record { kind = k; schema = s; origin = origin; inputs = inputs }

-- a node between phases, or one that works in a phase
abbrev pub at_rest : PhysicalNode → Progress → Node
at_rest p progress = record { node = p; progress = progress; in_phase = false; is_closed = false }

abbrev pub at_work : PhysicalNode → Progress → Node
at_work p progress = record { node = p; progress = progress; in_phase = true; is_closed = false }

-- A ZIP
-- of two rows and of one, whose number of rows no one knows before its source is done
abbrev pub b_schema : Fields
b_schema = (codes "b", kind.Int64) ∷ []

abbrev pub ab_schema : Fields
ab_schema = (codes "a", kind.Int64) ∷ (codes "b", kind.Int64) ∷ []

abbrev pub two_rows : List Row
two_rows = row 1 ∷ row 2 ∷ []

abbrev pub one_row : List Row
one_row = row 7 ∷ []

abbrev pub side_by_side : PhysicalNode
side_by_side = read_by (zip_node false) ab_schema 2 ((0, 0) ∷ (1, 0) ∷ [])

abbrev pub zip_shape : Shape
zip_shape = source_of a_schema 0 two_rows ∷ source_of b_schema 1 one_row ∷ side_by_side ∷ read_by in_memory_sink ab_schema 3 ((2, 0) ∷ []) ∷ []

-- one worker, and morsels of two rows
abbrev pub one_worker : Options
one_worker =
    record {
      workers = 1;
      morsel_rows = 2;
      partitions = 1;
      seed = 0;
      some_workers = leb_yes tt;
      few_workers = leb_yes tt;
      some_rows = leb_yes tt;
      few_rows = leb_yes tt;
      some_partitions = leb_yes tt;
      few_partitions = leb_yes tt;
    }

-- In the first phase the zip stores both inputs and claims nothing, since the second may have more rows. The second Open knows that it has one, and the zip claims its cut.
abbrev pub cut_journal : List Record
cut_journal =
    opened 1 ∷ claimed 0 0 0 0 ∷ handed_in 0 0 0 0 (rows 2) ∷ claimed 1 0 0 0 ∷ handed_in 1 0 0 0 (rows 1) ∷ pulled 2 0 0 ∷ pulled 2 1 0
    ∷ closed 0 ∷ closed 1 ∷ closed 2 ∷ closed 3 ∷ ended 1 ∷ opened 2 ∷ claimed 2 0 0 0 ∷ []

abbrev pub given_journal : List Record
given_journal = cut_journal ++ handed_in 2 0 0 0 (rows 2) ∷ []

-- the zip that stored both inputs, and booked both rows for its first number
abbrev pub both_booked : Node
both_booked = at_work side_by_side (record (no_progress 2) { sent = 1; booked = 2; stores = (two_rows ∷ []) ∷ (one_row ∷ []) ∷ [] })

abbrev pub second_phase : (journal : List Record) → slots → List Piece → World
second_phase journal given outs =
    record {
      options = one_worker;
      nodes =
          at_rest (source_of a_schema 0 two_rows) (record (no_progress 0) { sent = 1 })
          ∷ at_rest (source_of b_schema 1 one_row) (record (no_progress 0) { sent = 1 }) ∷ both_booked ∷ at_work (read_by in_memory_sink ab_schema 3 ((2, 0) ∷ [])) (no_progress 1) ∷ [];
      pipes = pipe 0 2 0 port.Done (Some two_rows ∷ []) 1 ∷ pipe 1 2 1 port.Done (Some one_row ∷ []) 1 ∷ pipe 2 3 0 port.Ready given 0 ∷ [];
      outs = outs;
      phase = 2;
      is_open = true;
      journal = journal;
      ending = running;
    }

-- its cut is out, with these rows of the first input beside the one of the second
abbrev pub a_cut : (first : List Row) → Piece
a_cut first = record { node = 2; input = 0; number = 0; worker = 0; gives = 0; task = computes side_by_side; schemas = a_schema ∷ b_schema ∷ []; tables = first ∷ one_row ∷ [] }

abbrev pub cut_world : (journal : List Record) (first : List Row) → World
cut_world journal first = second_phase journal (None ∷ []) (a_cut first ∷ [])

-- what came of it, with this beside the second row
abbrev pub zipped_rows : Value → List Row
zipped_rows second = (val.Int64 (pos 1) ∷ val.Int64 (pos 7) ∷ []) ∷ (val.Int64 (pos 2) ∷ second ∷ []) ∷ []

abbrev pub given_world : (journal : List Record) (second : Value) → World
given_world journal second = second_phase journal (Some (zipped_rows second) ∷ []) []

-- A MULTIPLEXER
-- of two rows, of which a slice takes the first alone; a union gives it and then both
abbrev pub a_multiplexer : PhysicalNode
a_multiplexer = read_by multiplexer a_schema 0 ((0, 0) ∷ [])

-- the port whose reader is done, and the other, of which nothing was read yet
abbrev pub done_port : slots → Pipe
done_port got = record (pipe 1 2 0 port.Done got 1) { is_dropped = true; is_unread = true }

abbrev pub open_port : slots → Pipe
open_port got = record (pipe 1 3 1 port.Ready got 0) { wire = record (pipe 1 3 1 port.Ready got 0).wire { port = 1 } }

-- the phase after the slice was done: the union read what it gave, and begins with the other port
abbrev pub ports_world : (journal : List Record) (first second : slots) → World
ports_world journal first second =
    record {
      options = two_workers;
      nodes =
          at_rest (source_of a_schema 0 two_rows) (record (no_progress 0) { sent = 2 })
          ∷ at_work a_multiplexer (no_progress 1)
          ∷ at_rest (read_by (streaming_slice 0 1) a_schema 1 ((1, 0) ∷ [])) (record (no_progress 1) { booked = 1 })
          ∷ at_work (read_by ordered_union a_schema 2 ((2, 0) ∷ (1, 1) ∷ [])) (record (no_progress 2) { sent = 1 }) ∷ at_work (read_by in_memory_sink a_schema 3 ((3, 0) ∷ [])) (record (no_progress 1) { stores = ((row 1 ∷ []) ∷ []) ∷ [] }) ∷ [];
      pipes =
          pipe 0 1 0 port.Done (came (row 1) ∷ came (row 2) ∷ []) 2
          ∷ done_port first ∷ pipe 2 3 0 port.Done (came (row 1) ∷ []) 1 ∷ open_port second ∷ pipe 3 4 0 port.Ready (came (row 1) ∷ []) 1 ∷ [];
      outs = [];
      phase = 2;
      is_open = true;
      journal = journal;
      ending = running;
    }
