-- A scan of seven rows, one a morsel, before a filter and a sink, in its open phase: worlds in which a step is refused, each beside one in which it is made.
use Rattle.std.specs.Prelude.{ℕ, true, List, [], ◌∷◌, Option, Some, replicate, false}
use Rattle.ps_frame.specs.Functions.{Functions}
use Rattle.ps_frame.specs.Tables.{Frame, Row}
use Rattle.ps_meaning.specs.Shape.{PhysicalNode, Shape, in_memory_sink, in_memory_source}
use Rattle.ps_options.specs.declared.options.Options.{Options}
use Rattle.ps_ports.specs.declared.port_state.PortState.TheVariants as port
use Rattle.ps_turns.specs.Tasks.{Piece, hands_on}
use Rattle.ps_world.specs.Opening.{fresh_node, fresh_pipe, no_progress}
use Rattle.ps_world.specs.Step.{Steps}
use Rattle.ps_world.specs.World.{Node, Record, World, running}
use Rattle.world_runs.specs.Examples.{a_schema, options, row}

abbrev pub seven_rows : Frame
seven_rows = record { schema = a_schema; rows = row 1 ∷ row 2 ∷ row 3 ∷ row 4 ∷ row 5 ∷ row 6 ∷ row 7 ∷ [] }

abbrev pub one_by_one : Options
one_by_one = options 1 1 1 tt tt tt tt tt tt

abbrev pub a_scan : PhysicalNode
a_scan = record { kind = in_memory_source seven_rows; schema = a_schema; origin = 0; inputs = [] }

abbrev pub a_sink : PhysicalNode
a_sink = record { kind = in_memory_sink; schema = a_schema; origin = 1; inputs = (0, 0) ∷ [] }

abbrev pub scan_shape : Shape
scan_shape = a_scan ∷ a_sink ∷ []

-- the scan, which sent so many morsels
abbrev pub scanning : (sent : ℕ) → Node
scanning k = record { node = a_scan; progress = record (no_progress 0) { sent = k }; in_phase = true; is_closed = false }

-- the world in which the scan sent so many morsels, the pipe got these, and these pieces are out
abbrev pub scan_world : (sent : ℕ) → List (Option (List Row)) → List Piece → World
scan_world k got outs =
    record {
      options = one_by_one;
      nodes = scanning k ∷ record (fresh_node a_sink) { in_phase = true } ∷ [];
      pipes = record (fresh_pipe 0 0 1 0) { wire = record { sender = 0; port = 0; receiver = 1; input = 0; send_state = port.Ready; receive_state = port.Ready }; got = got; in_phase = true } ∷ [];
      outs = outs;
      phase = 1;
      is_open = true;
      journal = [];
      ending = running;
    }

-- so many morsels that wait
abbrev pub waiting_morsels : ℕ → List (Option (List Row))
waiting_morsels k = replicate k (Some (row 1 ∷ []))

-- the first morsel, out with worker 0
abbrev pub first_piece : Piece
first_piece = record { node = 0; input = 0; number = 0; worker = 0; gives = 0; task = hands_on; schemas = a_schema ∷ []; tables = (row 1 ∷ []) ∷ [] }

-- the record leads from the world to some other, and to none
abbrev pub IsMade : Functions → World → Record → Type 0
IsMade F w r = (v : World) × Steps F w r v

abbrev pub IsRefused : Functions → World → Record → Type 0
IsRefused F w r = (v : World) → ¬ Steps F w r v
