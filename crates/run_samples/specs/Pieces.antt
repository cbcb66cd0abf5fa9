-- Parameters of pieces, over a table of one row.
use Rattle.std.specs.Prelude.{[], ◌∷◌, None, Some, pos, codes}
use Rattle.pu_base.specs.declared.arena.Node.{Node}
use Rattle.ps_frame.specs.Tables.{Fields, Frame}
use Rattle.ps_frame.specs.Trees.{Tree}
use Rattle.ps_frame.specs.declared.value.DataType.TheVariants as kind
use Rattle.ps_frame.specs.declared.value.Value.TheVariants as val
use Rattle.ps_pieces.specs.declared.parameters.Operation.{Operation}
use Rattle.ps_pieces.specs.declared.parameters.Operation.TheVariants as operation

-- no expression stands in the arena
abbrev pub no_tree : Node → Tree
no_tree n = Tree.missing

abbrev pub a_frame : Frame
a_frame = record { schema = (codes "a", kind.Int64) ∷ []; rows = (val.Int64 (pos 1) ∷ []) ∷ [] }

-- rows are numbered from 10 on, and from 0 on
abbrev pub from_ten : Operation
from_ten = operation.WithRowIndex (codes "n") (Some 10)

abbrev pub from_none : Operation
from_none = operation.WithRowIndex (codes "n") None
