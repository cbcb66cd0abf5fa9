-- The tables of nodes, as far as they are held.
use Rattle.std.specs.Prelude.{◌≡◌, List, [], Option, Some, None, map, slice_get, unwrap_or}
use Rattle.std.specs.List.{All}
use Rattle.pu_base.specs.declared.arena.Node.{Node}
use Rattle.ps_frame.specs.Tables.{Frame}

-- a table for each number of a node, or none
abbrev pub Held : Type 0
Held = List (Option Frame)

-- the table of a node, and those of several
abbrev pub table_in : Held → Node → Frame
table_in held n = unwrap_or (unwrap_or (slice_get held n.0) None) (record { schema = []; rows = [] })

abbrev pub tables_in : Held → List Node → List Frame
tables_in held ns = map (table_in held) ns

-- the table of a node is held, and those of several are
abbrev pub IsHeld : Held → Node → Type 0
IsHeld held n = (f : Frame) × (slice_get held n.0 ≡ Some (Some f))

abbrev pub AreHeld : Held → List Node → Type 0
AreHeld held ns = All (IsHeld held) ns
