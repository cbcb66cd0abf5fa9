-- A node that doesn't know where it stands.
use Rattle.std.specs.Prelude.{ℕ, ◌-◌, ◌^◌, []}
use Rattle.ps_frame.specs.Tables.{Fields}
use Rattle.ps_meaning.specs.Shape.{PhysicalKind, PhysicalNode}

-- where no node stands
abbrev pub nowhere : ℕ
nowhere = 2 ^ 64 - 1

-- a node of a kind, as far as it knows itself: the schema of what it gives, where it needs that, and not its inputs
abbrev pub bare_node : PhysicalKind → Fields → PhysicalNode
bare_node kind schema = record { kind = kind; schema = schema; origin = nowhere; inputs = [] }
