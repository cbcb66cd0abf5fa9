-- A source, a reduce that takes its morsels, and a sink: one morsel is out with a worker, and three wait.
use Rattle.std.specs.Prelude.{ℕ, List, [], ◌∷◌, true, Some, codes, pos, replicate}
use Rattle.ps_frame.specs.Tables.{Fields, Row}
use Rattle.ps_frame.specs.declared.value.DataType.TheVariants as kind
use Rattle.ps_frame.specs.declared.value.Value.TheVariants as val
use Rattle.ps_meaning.specs.Shape.{PhysicalKind, in_memory_sink, in_memory_source, reduce}
use Rattle.ps_options.specs.declared.options.Options.{Options}
use Rattle.ps_ports.specs.declared.port_state.PortState.TheVariants as port
use Rattle.ps_turns.specs.Tasks.{Piece, keeps}
use Rattle.ps_world.specs.Opening.{fresh_node, fresh_pipe}
use Rattle.ps_world.specs.World.{Node, Pipe, World, running}

abbrev pub a_schema : Fields
a_schema = (codes "a", kind.Int64) ∷ []

abbrev pub a_node : PhysicalKind → List (ℕ × ℕ) → Node
a_node k inputs = record (fresh_node (record { kind = k; schema = a_schema; origin = 0; inputs = inputs })) { in_phase = true }

abbrev pub a_source : PhysicalKind
a_source = in_memory_source (record { schema = a_schema; rows = [] })

abbrev pub a_morsel : List Row
a_morsel = (val.Int64 (pos 1) ∷ []) ∷ []

-- four morsels came, of which one was taken
abbrev pub half_read : Pipe
half_read =
    record (fresh_pipe 0 0 1 0) {
      wire = record { sender = 0; port = 0; receiver = 1; input = 0; send_state = port.Ready; receive_state = port.Ready };
      got = replicate 4 (Some a_morsel);
      next = 1;
      in_phase = true;
    }

-- the reduce keeps it
abbrev pub kept_piece : Piece
kept_piece = record { node = 1; input = 0; number = 0; worker = 0; gives = 0; task = keeps (a_node (reduce []) ((0, 0) ∷ [])).node; schemas = a_schema ∷ []; tables = a_morsel ∷ [] }

-- what node 0 is, and the pipe that leads from it
abbrev pub behind : PhysicalKind → Pipe → Options → World
behind k p o =
    record {
      options = o;
      nodes = a_node k [] ∷ a_node (reduce []) ((0, 0) ∷ []) ∷ fresh_node (record { kind = in_memory_sink; schema = a_schema; origin = 0; inputs = (1, 0) ∷ [] }) ∷ [];
      pipes = p ∷ fresh_pipe 1 0 2 0 ∷ [];
      outs = kept_piece ∷ [];
      phase = 1;
      is_open = true;
      journal = [];
      ending = running;
    }

abbrev pub reducing : Options → World
reducing o = behind a_source half_read o
