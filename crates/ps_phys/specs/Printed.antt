-- The text of a physical plan: a line for each node.
use Rattle.std.specs.Prelude.{ℕ, ◌+◌, true, false, List, [], ◌∷◌, ◌++◌, codes, decimal}
use Rattle.std.specs.List.{join_by}
use Rattle.ps_meaning.specs.Shape.{PhysicalKind, PhysicalNode, Shape, in_memory_source, select_node, with_row_index, independent_select, reduce, streaming_slice, negative_slice, filter_node, simple_projection, in_memory_sink, in_memory_map, stream_map, ordered_union, zip_node, multiplexer, group_by_node, equi_join, in_memory_join}
use Rattle.ps_meaning.specs.Steps.{Step, sort}
use Rattle.ps_phys.specs.Walks.{Stream}

-- a sort takes its whole input as a map does, under a word of its own
abbrev pub map_word : Step → List ℕ
map_word (sort o) = codes "sort"
map_word _ = codes "in-memory-map"

abbrev pub kind_word : PhysicalKind → List ℕ
kind_word (in_memory_source t) = codes "in-memory-source"
kind_word (select_node es true) = codes "with-columns"
kind_word (select_node es false) = codes "select"
kind_word (with_row_index name offset) = codes "with-row-index"
kind_word (independent_select es) = codes "input-independent-select"
kind_word (reduce es) = codes "reduce"
kind_word (streaming_slice offset n) = codes "slice"
kind_word (negative_slice back n) = codes "negative-slice"
kind_word (filter_node e) = codes "filter"
kind_word (simple_projection ns) = codes "simple-projection"
kind_word in_memory_sink = codes "in-memory-sink"
kind_word (in_memory_map step) = map_word step
kind_word (stream_map step) = codes "map"
kind_word ordered_union = codes "ordered-union"
kind_word (zip_node true) = codes "zip-null-extend"
kind_word (zip_node false) = codes "zip"
kind_word multiplexer = codes "multiplexer"
kind_word (group_by_node keys aggregates) = codes "group-by"
kind_word (equi_join o) = codes "equi-join"
kind_word (in_memory_join o) = codes "in-memory-join"

-- an input is the number of a node, and a port of it
abbrev pub input_text : Stream → List ℕ
input_text s = decimal s.0 ++ codes "." ++ decimal s.1

abbrev pub inputs_text : List Stream → List ℕ
inputs_text [] = codes "-"
inputs_text (s ∷ ss) = join_by input_text (codes ",") (s ∷ ss)

-- a line: the node's number, its kind, the logical node that it comes from, and its inputs
abbrev pub head_text : ℕ → PhysicalNode → List ℕ
head_text n p = decimal n ++ codes " " ++ kind_word p.kind ++ codes " " ++ decimal p.origin ++ codes " "

abbrev pub line_text : ℕ → PhysicalNode → List ℕ
line_text n p = head_text n p ++ inputs_text p.inputs ++ codes "\n"

abbrev pub lines_from : ℕ → Shape → List ℕ
lines_from n [] = []
lines_from n (p ∷ ps) = line_text n p ++ lines_from (n + 1) ps

abbrev pub plan_text : Shape → List ℕ
plan_text shape = lines_from 0 shape
