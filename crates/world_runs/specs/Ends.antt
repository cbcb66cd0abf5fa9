-- A slice from the end: what it stores, and its pull in a world.
use Rattle.std.specs.Prelude.{ℕ, true, List, [], ◌∷◌, Some, pos, codes}
use Rattle.ps_frame.specs.Tables.{Fields, Row}
use Rattle.ps_frame.specs.declared.value.DataType.TheVariants as kind
use Rattle.ps_frame.specs.declared.value.Value.TheVariants as val
use Rattle.ps_ports.specs.declared.port_state.PortState.TheVariants as port
use Rattle.ps_turns.specs.Progress.{Progress}
use Rattle.ps_meaning.specs.Shape.{PhysicalKind, negative_slice}
use Rattle.ps_world.specs.Opening.{fresh_node, fresh_pipe, no_progress}
use Rattle.ps_world.specs.World.{Node, Pipe, World, running}
use Rattle.world_runs.specs.Examples.{options}

abbrev pub a : Fields
a = (codes "a", kind.Int64) ∷ []

abbrev pub row : ℕ → Row
row n = val.Int64 (pos n) ∷ []

-- A slice of one row from two before the end pulls morsels of one, one and two rows: it then lets go of the first two, and has counted four.
abbrev pub two_before : PhysicalKind
two_before = negative_slice 2 1

abbrev pub stored : ℕ → List (List Row) → Progress
stored k ms = record (no_progress 1) { booked = k; stores = ms ∷ [] }

-- the same by a pull in a world
abbrev pub a_slice : Node
a_slice = record (fresh_node (record { kind = two_before; schema = a; origin = 1; inputs = (0, 0) ∷ [] })) { in_phase = true }

abbrev pub the_pipe : Pipe
the_pipe = record (fresh_pipe 0 0 0 0) { wire = record { sender = 1; port = 0; receiver = 0; input = 0; send_state = port.Ready; receive_state = port.Ready }; got = Some (row 1 ∷ []) ∷ Some (row 2 ∷ row 3 ∷ []) ∷ []; next = 1; in_phase = true }

abbrev pub before : World
before =
    record {
      options = options 1 2 1 tt tt tt tt tt tt;
      nodes = record a_slice { progress = stored 1 ((row 1 ∷ []) ∷ []) } ∷ [];
      pipes = the_pipe ∷ [];
      outs = [];
      phase = 1;
      is_open = true;
      journal = [];
      ending = running;
    }
