-- Small worlds: a multiplexer one of whose ports leads to a dropped pipe, a slice that asks for no row, and a node that takes a morsel while three wait.
use Rattle.std.specs.Prelude.{ℕ, [], ◌∷◌, Some, None, true}
use Rattle.ps_frame.specs.Trees.{Tree}
use Rattle.ps_frame.specs.declared.expr.LiteralValue.TheVariants as lit
use Rattle.ps_meaning.specs.Shape.{PhysicalKind, filter_node, in_memory_sink, in_memory_source, multiplexer, reduce, streaming_slice}
use Rattle.ps_ports.specs.declared.port_state.PortState.{PortState}
use Rattle.ps_ports.specs.declared.port_state.PortState.TheVariants as port
use Rattle.ps_turns.specs.Tasks.{keeps}
use Rattle.ps_world.specs.Opening.{fresh_node, fresh_pipe}
use Rattle.ps_world.specs.World.{Node, Pipe, World}
use Rattle.world_runs.specs.SmallWorlds.{a_schema, given, physical, pipe, row, small_world}

abbrev pub at_work : Node → Node
at_work node = record node { in_phase = true }

abbrev pub in_phase : Pipe → Pipe
in_phase p = record p { in_phase = true }

abbrev pub a_scan : Node
a_scan = fresh_node (physical (in_memory_source given) [])

abbrev pub a_sink : ℕ → Node
a_sink input = fresh_node (physical in_memory_sink ((input, 0) ∷ []))

-- A scan goes through a multiplexer to a slice, which has its rows and dropped its input, and, outside the phase, to another reader, which says this.
abbrev pub into_multiplexer : Pipe
into_multiplexer = in_phase (pipe 0 0 1 0 port.Ready port.Ready)

abbrev pub into_slice : Pipe
into_slice = record (in_phase (pipe 1 0 2 0 port.Ready port.Ready)) { is_dropped = true }

abbrev pub beside : PortState → Pipe
beside says = pipe 1 1 3 0 port.Ready says

abbrev pub shared : PortState → World
shared says =
    record
    (small_world
    (at_work a_scan ∷ at_work (fresh_node (physical multiplexer ((0, 0) ∷ []))) ∷ at_work (fresh_node (physical (streaming_slice 0 0) ((1, 0) ∷ []))) ∷ a_sink 1 ∷ [])
    (into_multiplexer ∷ into_slice ∷ beside says ∷ [])) { is_open = true; phase = 1 }

-- a scan under a slice of no row, before any update
abbrev pub no_rows_asked : World
no_rows_asked = small_world (a_scan ∷ fresh_node (physical (streaming_slice 0 0) ((0, 0) ∷ [])) ∷ a_sink 1 ∷ []) (fresh_pipe 0 0 1 0 ∷ fresh_pipe 1 0 2 0 ∷ [])

-- one morsel was taken, and three wait
abbrev pub three_wait : Pipe
three_wait = record (in_phase (pipe 0 0 1 0 port.Ready port.Ready)) { got = Some (row 1 ∷ []) ∷ Some (row 2 ∷ []) ∷ Some (row 3 ∷ []) ∷ Some (row 4 ∷ []) ∷ []; next = 1 }

-- A node of this kind has the first morsel out with a worker; what leaves it is this pipe.
abbrev pub with_piece : PhysicalKind → Pipe → World
with_piece kind out =
    record (small_world (at_work a_scan ∷ at_work (fresh_node (physical kind ((0, 0) ∷ []))) ∷ a_sink 1 ∷ []) (three_wait ∷ out ∷ [])) {
      is_open = true;
      phase = 1;
      outs = record { node = 1; input = 0; number = 0; worker = 0; gives = 0; task = keeps (physical kind ((0, 0) ∷ [])); schemas = a_schema ∷ []; tables = (row 1 ∷ []) ∷ [] } ∷ [];
    }

-- a reduce gives nothing on while it takes; a filter has a place for its answer in what leaves it
abbrev pub reduces : World
reduces = with_piece (reduce []) (pipe 1 0 2 0 port.Blocked port.Ready)

abbrev pub filters : World
filters = with_piece (filter_node (Tree.literal (lit.Boolean true))) (record (in_phase (pipe 1 0 2 0 port.Ready port.Ready)) { got = None ∷ [] })
