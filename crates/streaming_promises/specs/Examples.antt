-- A sink that took two morsels, and pieces of a source.
use Rattle.std.specs.Prelude.{List, [], ◌∷◌}
use Rattle.ps_frame.specs.Tables.{Row}
use Rattle.ps_meaning.specs.Shape.{in_memory_sink}
use Rattle.ps_ports.specs.declared.port_state.PortState.TheVariants as port
use Rattle.ps_turns.specs.Tasks.{Piece, hands_on}
use Rattle.ps_world.specs.World.{Node, Pipe, World}
use Rattle.world_families.specs.Examples.{a_schema, a_sender, came, node_of, piece, pipe, progress_of, row, world}

abbrev pub a_sink : (morsels : List (List Row)) → Node
a_sink morsels = node_of in_memory_sink ((0, 0) ∷ []) (progress_of 0 0 (morsels ∷ []))

abbrev pub two_came : Pipe
two_came = pipe 0 1 0 port.Ready (came (row 1) ∷ came (row 2) ∷ []) 2

abbrev pub sink_world : (morsels : List (List Row)) → World
sink_world morsels = world (a_sender ∷ a_sink morsels ∷ []) (two_came ∷ []) []

-- a piece that hands on these tables, and the world in which it is out
abbrev pub handing_on : List (List Row) → Piece
handing_on tables = piece 0 0 0 hands_on (a_schema ∷ []) tables

abbrev pub piece_world : List (List Row) → World
piece_world tables = world (a_sender ∷ []) [] (handing_on tables ∷ [])
