-- What physical nodes read of a slot map.
use Rattle.std.specs.Prelude.{ℕ, List, [], map, Option, Some, None}
use Rattle.keyed_slots.specs.Slots.{value_at}
use Rattle.ps_frame.specs.Tables.{Fields}
use Rattle.ps_phys.specs.Walks.{Stream}
use Rattle.ps_phys.specs.declared.phys.PhysNode.{PhysNode}

-- the schema of the node of a slot; none where no node is
abbrev pub slot_schema : Option PhysNode → Fields
slot_schema None = []
slot_schema (Some p) = p.output_schema

-- the schemas of these streams
abbrev pub schemas_read : List (Option PhysNode) → List Stream → List Fields
schemas_read slots inputs = map (λ (i : Stream). slot_schema (value_at slots i.0)) inputs
