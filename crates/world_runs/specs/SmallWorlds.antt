-- Small worlds and heads that tell the rules from wrong ones.
use Rattle.std.specs.Prelude.{ℕ, List, [], ◌∷◌, true, false, Some, pos, codes, map}
use Rattle.ps_frame.specs.Tables.{Fields, Frame, Row}
use Rattle.ps_frame.specs.Trees.{Tree}
use Rattle.ps_frame.specs.declared.expr.LiteralValue.TheVariants as lit
use Rattle.ps_frame.specs.declared.value.DataType.TheVariants as kind
use Rattle.ps_frame.specs.declared.value.Value.TheVariants as val
use Rattle.ps_meaning.specs.Shape.{in_memory_map, in_memory_sink, in_memory_source, independent_select, PhysicalKind, PhysicalNode, zip_node}
use Rattle.ps_meaning.specs.Steps.{select}
use Rattle.ps_turns.specs.Heads.{Stored}
use Rattle.ps_world.specs.Opening.{fresh_node, fresh_pipe}
use Rattle.ps_world.specs.Pipes.{with_drops}
use Rattle.ps_ports.specs.declared.port_state.PortState.{PortState}
use Rattle.ps_ports.specs.declared.port_state.PortState.TheVariants as port
use Rattle.ps_world.specs.World.{Node, Pipe, running, World}
use Rattle.world_runs.specs.Examples.{options}

abbrev pub row : ℕ → Row
row n = val.Int64 (pos n) ∷ []

abbrev pub a_schema : Fields
a_schema = (codes "a", kind.Int64) ∷ []

abbrev pub given : Frame
given = record { schema = a_schema; rows = [] }

abbrev pub physical : PhysicalKind → List (ℕ × ℕ) → PhysicalNode
physical k inputs = record { kind = k; schema = a_schema; origin = 0; inputs = inputs }

abbrev pub pipe : (sender port receiver input : ℕ) → PortState → PortState → Pipe
pipe s k r i send receive = record (fresh_pipe s k r i) { wire = record { sender = s; port = k; receiver = r; input = i; send_state = send; receive_state = receive } }

abbrev pub small_world : List Node → List Pipe → World
small_world nodes pipes = record { options = options 1 2 1 tt tt tt tt tt tt; nodes = nodes; pipes = pipes; outs = []; phase = 0; is_open = false; journal = []; ending = running }

-- two maps, each over a source, a zip of both, and a sink
abbrev pub a_map : PhysicalKind
a_map = in_memory_map (select [])

abbrev pub nodes : List Node
nodes =
    map fresh_node
    (physical (in_memory_source given) [] ∷ physical a_map ((0, 0) ∷ []) ∷ physical (in_memory_source given) [] ∷ physical a_map ((2, 0) ∷ []) ∷ physical (zip_node false) ((1, 0) ∷ (3, 0) ∷ []) ∷ physical in_memory_sink ((4, 0) ∷ []) ∷ [])

abbrev pub two_maps : PortState → World
two_maps second = small_world nodes (pipe 0 0 1 0 port.Ready port.Ready ∷ pipe 2 0 3 0 port.Ready port.Ready ∷ pipe 1 0 4 0 port.Blocked port.Ready ∷ pipe 3 0 4 1 port.Blocked second ∷ pipe 4 0 5 0 port.Blocked port.Ready ∷ [])

-- inputs of one row, of two, and of three, all done
abbrev pub one : Stored
one = record { rows = row 7 ∷ []; is_over = true }

abbrev pub two : Stored
two = record { rows = row 1 ∷ row 2 ∷ []; is_over = true }

abbrev pub three : Stored
three = record { rows = row 1 ∷ row 2 ∷ row 3 ∷ []; is_over = true }

-- a select without input has one morsel to claim
abbrev pub one_literal : Node
one_literal = fresh_node (physical (independent_select ((codes "a", Tree.literal (lit.Int64 (pos 1))) ∷ [])) [])

-- where a zip's output is dropped, its input is too and loses its morsel, and its head is lost
abbrev pub a_zip : Node
a_zip = record (fresh_node (physical (zip_node false) ((0, 0) ∷ []))) { in_phase = true }

abbrev pub cut_off : World
cut_off =
    with_drops
    (small_world (fresh_node (physical (in_memory_source given) []) ∷ record a_zip { progress = record a_zip.progress { stores = ((row 1 ∷ []) ∷ []) ∷ [] } } ∷ [])
    (record (pipe 0 0 1 0 port.Ready port.Ready) { in_phase = true; got = Some (row 2 ∷ []) ∷ [] } ∷ record (pipe 1 0 2 0 port.Ready port.Ready) { in_phase = true; is_dropped = true } ∷ []))
