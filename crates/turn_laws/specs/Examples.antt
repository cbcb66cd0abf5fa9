-- Nodes with what they have behind them, before an update.
use Rattle.std.specs.Prelude.{ℕ, Bool, List, [], ◌∷◌, Some, None, codes, pos}
use Rattle.ps_frame.specs.Causes.{Cause}
use Rattle.ps_frame.specs.Tables.{Fields, Row}
use Rattle.ps_frame.specs.declared.value.DataFault.TheVariants as data_fault
use Rattle.ps_frame.specs.declared.value.DataType.TheVariants as data_type
use Rattle.ps_frame.specs.declared.value.Value.TheVariants as value
use Rattle.ps_meaning.specs.Shape.{PhysicalKind, in_memory_map, simple_projection, zip_node}
use Rattle.ps_meaning.specs.Steps.{user}
use Rattle.ps_ports.specs.declared.port_state.PortState.{PortState}
use Rattle.ps_ports.specs.Ports.{Sides}
use Rattle.ps_turns.specs.Progress.{giving, taking}
use Rattle.turn_laws.specs.Updating.{SeenNode}

abbrev pub row : ℕ → Row
row n = value.Int64 (pos n) ∷ []

abbrev pub a_schema : Fields
a_schema = (codes "a", data_type.Int64) ∷ []

-- node 7 of a plan, of this kind, with these inputs' rows stored
abbrev pub a_node : PhysicalKind → (inputs : List (ℕ × ℕ)) → (stores : List (List (List Row))) → SeenNode
a_node kind inputs stores =
    record {
      node = record { kind = kind; schema = a_schema; origin = 7; inputs = inputs };
      schemas = a_schema ∷ [];
      empties = [];
      progress = record { stage = taking; sent = 0; booked = 0; stores = stores; taken = []; made = None; lists = [] };
    }

abbrev pub a_projection : SeenNode
a_projection = a_node (simple_projection (codes "a" ∷ [])) ((0, 0) ∷ []) []

-- a zip that stored two rows of one input, and of the other these
abbrev pub a_zip : (second : List Row) → SeenNode
a_zip second = a_node (zip_node Bool.false) ((0, 0) ∷ (1, 0) ∷ []) (((row 1 ∷ row 2 ∷ []) ∷ []) ∷ (second ∷ []) ∷ [])

-- two inputs and an output
abbrev pub two_inputs : PortState → PortState → PortState → Sides
two_inputs first second output = record { inputs = first ∷ second ∷ []; outputs = output ∷ [] }

-- a map of function 0 that the caller handed in, which stored one row; and once it is filled with these rows and gives
abbrev pub a_map : SeenNode
a_map = a_node (in_memory_map (user 0)) ((0, 0) ∷ []) (((row 1 ∷ []) ∷ []) ∷ [])

abbrev pub a_filled_map : List Row → SeenNode
a_filled_map rs = record a_map { progress = record a_map.progress { stage = giving; made = Some rs } }

abbrev pub shape_cause : Cause
shape_cause = record { fault = data_fault.Shape; node = 7 }
