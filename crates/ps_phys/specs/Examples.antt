-- Small lists of physical nodes, and the shapes that their roots show.
use Rattle.std.specs.Prelude.{ℕ, false, List, [], ◌∷◌, codes}
use Rattle.ps_frame.specs.Trees.{Tree}
use Rattle.ps_meaning.specs.Shape.{PhysicalKind, PhysicalNode, Shape, filter_node, in_memory_sink, in_memory_source, multiplexer, negative_slice, reduce, zip_node}
use Rattle.ps_phys.specs.Walks.{Stream}

abbrev pub a_node : PhysicalKind → (origin : ℕ) → List Stream → PhysicalNode
a_node kind origin inputs = record { kind = kind; schema = []; origin = origin; inputs = inputs }

abbrev pub a_source : PhysicalNode
a_source = a_node (in_memory_source (record { schema = []; rows = [] })) 0 []

abbrev pub a_filter : List Stream → PhysicalNode
a_filter inputs = a_node (filter_node (Tree.column (codes "a"))) 1 inputs

-- a sink, a source and a filter between them
abbrev pub three_nodes : Shape
three_nodes = a_node in_memory_sink 2 ((2, 0) ∷ []) ∷ a_source ∷ a_filter ((1, 0) ∷ []) ∷ []

abbrev pub three_in_order : Shape
three_in_order = a_source ∷ a_filter ((0, 0) ∷ []) ∷ a_node in_memory_sink 2 ((1, 0) ∷ []) ∷ []

-- a zip of a filter and a reduce that read both ports of a multiplexer, and a node that nothing reads
abbrev pub shared_nodes : Shape
shared_nodes =
    a_node (zip_node false) 1 ((1, 0) ∷ (2, 0) ∷ [])
    ∷ a_filter ((3, 0) ∷ [])
    ∷ a_node (reduce []) 1 ((3, 1) ∷ [])
    ∷ a_node multiplexer 0 ((5, 0) ∷ [])
    ∷ a_node (negative_slice 3 2) 4 ((5, 0) ∷ [])
    ∷ a_source ∷ []
