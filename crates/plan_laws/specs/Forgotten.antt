-- A slice of a plan that forgets what the slice of its stream keeps.
use Rattle.std.specs.Prelude.{false, pos, List, [], ◌∷◌, codes}
use Rattle.ps_frame.specs.Tables.{Fields, Frame}
use Rattle.ps_frame.specs.Trees.{Aggregation, Tree}
use Rattle.ps_frame.specs.declared.expr.Operator.TheVariants as op
use Rattle.ps_frame.specs.declared.value.DataType.TheVariants as kind
use Rattle.ps_meaning.specs.PlanTrees.{PlanTree, node}
use Rattle.ps_meaning.specs.Shape.{Shape, filter_node, in_memory_map, in_memory_sink, in_memory_source, multiplexer, reduce, select_node, streaming_slice, zip_node}
use Rattle.ps_meaning.specs.Steps.{Name, select, slice}
use Rattle.plan_laws.specs.Broken.{faulty_key}
use Rattle.plan_laws.specs.Examples.{a_column, int, number, one_input, over_scan}
use Rattle.plan_laws.specs.Shapes.{physical}

-- values, and places of which the second isn't there
abbrev pub places : Frame
places =
    record {
      schema = (codes "a", kind.Int64) ∷ (codes "i", kind.Int64) ∷ [];
      rows = (number 1 ∷ number 0 ∷ []) ∷ (number 2 ∷ number 9 ∷ []) ∷ [];
    }

abbrev pub at_places : Tree
at_places = Tree.gather false a_column (Tree.column (codes "i"))

abbrev pub above_hundred : Tree
above_hundred = Tree.binary op.Gt a_column (int 100)

-- the sum of a column and of a cast that faults: over no rows the fault is lost
abbrev pub lossy_sum : Tree → Tree
lossy_sum e = Tree.aggregate Aggregation.sum (Tree.binary op.Plus e faulty_key)

-- the gathered values beside a sum over no rows
abbrev pub gathered : PlanTree
gathered = over_scan places (select ((codes "f", at_places) ∷ (codes "m", lossy_sum (Tree.filter a_column above_hundred)) ∷ []))

-- and the first row of both
abbrev pub first_gathered : PlanTree
first_gathered = node 2 (slice (pos 0) 1) (one_input gathered)

abbrev pub ints : List Name → Fields
ints [] = []
ints (n ∷ ns) = (n, kind.Int64) ∷ ints ns

abbrev pub filtered : Fields
filtered = (codes "v", kind.Int64) ∷ (codes "p", kind.Boolean) ∷ []

-- The nodes of the plan under a sink. The filter's rows go to the reduce; this and the gathered values go to the zip.
abbrev pub gathered_shape : Shape
gathered_shape =
    physical (in_memory_source places) places.schema 0 []
    ∷ physical multiplexer places.schema 0 ((0, 0) ∷ [])
    ∷ physical (select_node ((codes "v", a_column) ∷ (codes "p", above_hundred) ∷ []) false) filtered 1 ((1, 1) ∷ [])
    ∷ physical (filter_node (Tree.column (codes "p"))) filtered 1 ((2, 0) ∷ [])
    ∷ physical (reduce ((codes "r", lossy_sum (Tree.column (codes "v"))) ∷ [])) (ints (codes "r" ∷ [])) 1 ((3, 0) ∷ [])
    ∷ physical (in_memory_map (select ((codes "g", at_places) ∷ []))) (ints (codes "g" ∷ [])) 1 ((1, 0) ∷ [])
    ∷ physical (zip_node false) (ints (codes "r" ∷ codes "g" ∷ [])) 1 ((4, 0) ∷ (5, 0) ∷ [])
    ∷ physical (select_node ((codes "f", Tree.column (codes "g")) ∷ (codes "m", Tree.column (codes "r")) ∷ []) false) (ints (codes "f" ∷ codes "m" ∷ [])) 1 ((6, 0) ∷ [])
    ∷ physical (streaming_slice 0 1) (ints (codes "f" ∷ codes "m" ∷ [])) 2 ((7, 0) ∷ [])
    ∷ physical in_memory_sink (ints (codes "f" ∷ codes "m" ∷ [])) 3 ((8, 0) ∷ []) ∷ []
