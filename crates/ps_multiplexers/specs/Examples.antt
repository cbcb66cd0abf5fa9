-- Small lists of physical nodes, for the worked examples.
use Rattle.std.specs.Prelude.{false, [], ◌∷◌}
use Rattle.ps_meaning.specs.Shape.{Shape, in_memory_sink, ordered_union, reduce, zip_node}
use Rattle.ps_phys.specs.Examples.{a_filter, a_node, a_source}

-- a zip of a filter and a reduce over one source, and a node that nothing reads
abbrev pub read_twice : Shape
read_twice =
    a_node (zip_node false) 1 ((1, 0) ∷ (2, 0) ∷ [])
    ∷ a_filter ((3, 0) ∷ [])
    ∷ a_node (reduce []) 1 ((3, 0) ∷ [])
    ∷ a_source
    ∷ a_node in_memory_sink 4 ((3, 0) ∷ []) ∷ []

-- a source, a union that reads it three times, and one that reads that union twice
abbrev pub unions : Shape
unions =
    a_source
    ∷ a_node ordered_union 1 ((0, 0) ∷ (0, 0) ∷ (0, 0) ∷ [])
    ∷ a_node ordered_union 2 ((1, 0) ∷ (1, 0) ∷ []) ∷ []
