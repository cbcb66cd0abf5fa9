-- The schemas of nodes, as far as they are known.
use Rattle.std.specs.Prelude.{◌≡◌, List, [], Option, Some, None, map, slice_get, unwrap_or}
use Rattle.std.specs.List.{AllByRecursion}
use Rattle.pu_base.specs.declared.arena.Node.{Node}
use Rattle.ps_frame.specs.Tables.{Fields}

-- a schema for each number of a node, or none
abbrev pub Known : Type 0
Known = List (Option Fields)

-- the schema of a node, and those of several
abbrev pub schema_in : Known → Node → Fields
schema_in known n = unwrap_or (unwrap_or (slice_get known n.0) None) []

abbrev pub schemas_in : Known → List Node → List Fields
schemas_in known ns = map (schema_in known) ns

-- the schema of a node is known, and those of several are
abbrev pub IsKnown : Known → Node → Type 0
IsKnown known n = (s : Fields) × (slice_get known n.0 ≡ Some (Some s))

abbrev pub AreKnown : Known → List Node → Type 0
AreKnown known ns = AllByRecursion (IsKnown known) ns
