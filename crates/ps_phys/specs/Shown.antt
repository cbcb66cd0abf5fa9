-- How a slot map of physical nodes shows a shape.
use Rattle.std.specs.Prelude.{◌≡◌, ℕ, suc, ℤ, pos, negsuc, List, [], ◌∷◌, map, Option, Some, option_map, unwrap_or, IsSome}
use Rattle.std.specs.List.{AllByRecursion}
use Rattle.keyed_slots.specs.Slots.{value_at}
use Rattle.pu_base.specs.declared.arena.Node.{Node}
use Rattle.ps_frame.specs.Trees.{Tree}
use Rattle.ps_meaning.specs.Maps.{map_step}
use Rattle.ps_meaning.specs.Shape.{PhysicalKind, PhysicalNode, Shape, in_memory_source, select_node, with_row_index, independent_select, reduce, streaming_slice, negative_slice, filter_node, simple_projection, in_memory_sink, in_memory_map, stream_map, ordered_union, zip_node, multiplexer, group_by_node, equi_join, in_memory_join}
use Rattle.ps_meaning.specs.Steps.{JoinStep, key_trees, named_trees, sort_step}
use Rattle.ps_meaning.specs.declared.options.ExprIR.{ExprIR}
use Rattle.ps_meaning.specs.declared.options.JoinArgs.{JoinArgs}
use Rattle.ps_phys.specs.Walks.{Stream, no_node, shape_from}
use Rattle.ps_phys.specs.declared.phys.PhysNode.{PhysNode}
use Rattle.ps_phys.specs.declared.phys.PhysNodeKind.{PhysNodeKind}
use Rattle.ps_phys.specs.declared.phys.PhysNodeKind.TheVariants as phys
use Rattle.ps_phys.specs.declared.phys.PhysStream.{PhysStream}

-- a number and a port
abbrev pub stream_of : PhysStream → Stream
stream_of s = (s.node.0, s.port)

abbrev pub streams_of : List PhysStream → List Stream
streams_of ss = map stream_of ss

abbrev pub join_of : (Node → Tree) → List ExprIR → List ExprIR → JoinArgs → JoinStep
join_of f left right args = record { left_on = key_trees f left; right_on = key_trees f right; args = args }

-- how far an offset is below 0; one that isn't below is no offset of a slice from the end
abbrev pub back_from : ℤ → ℕ
back_from (pos n) = 0
back_from (negsuc k) = suc k

-- the kind of a node, by the trees of the expressions that it names; a sort is a map over its whole input
abbrev pub kind_of : (Node → Tree) → PhysNodeKind → PhysicalKind
kind_of f (phys.InMemorySource df) = in_memory_source df
kind_of f (phys.Select input es extends) = select_node (named_trees f es) extends
kind_of f (phys.WithRowIndex input name offset) = with_row_index name offset
kind_of f (phys.InputIndependentSelect es) = independent_select (named_trees f es)
kind_of f (phys.Reduce input es) = reduce (named_trees f es)
kind_of f (phys.StreamingSlice input offset n) = streaming_slice offset n
kind_of f (phys.NegativeSlice input offset n) = negative_slice (back_from offset) n
kind_of f (phys.Filter input predicate) = filter_node (f predicate.node)
kind_of f (phys.SimpleProjection input columns) = simple_projection columns
kind_of f (phys.InMemorySink input) = in_memory_sink
kind_of f (phys.InMemoryMap input m) = in_memory_map (map_step f m)
kind_of f (phys.Map input m) = stream_map (map_step f m)
kind_of f (phys.Sort input by cut options) = in_memory_map (sort_step f by cut options)
kind_of f (phys.OrderedUnion inputs) = ordered_union
kind_of f (phys.Zip inputs extend) = zip_node extend
kind_of f (phys.Multiplexer input) = multiplexer
kind_of f (phys.GroupBy input key aggs) = group_by_node (named_trees f key) (named_trees f aggs)
kind_of f (phys.EquiJoin left right left_on right_on args) = equi_join (join_of f left_on right_on args)
kind_of f (phys.InMemoryJoin left right left_on right_on args) = in_memory_join (join_of f left_on right_on args)

-- the streams that a node reads, in order
abbrev pub inputs_of : PhysNodeKind → List Stream
inputs_of (phys.InMemorySource df) = []
inputs_of (phys.Select input es extends) = stream_of input ∷ []
inputs_of (phys.WithRowIndex input name offset) = stream_of input ∷ []
inputs_of (phys.InputIndependentSelect es) = []
inputs_of (phys.Reduce input es) = stream_of input ∷ []
inputs_of (phys.StreamingSlice input offset n) = stream_of input ∷ []
inputs_of (phys.NegativeSlice input offset n) = stream_of input ∷ []
inputs_of (phys.Filter input predicate) = stream_of input ∷ []
inputs_of (phys.SimpleProjection input columns) = stream_of input ∷ []
inputs_of (phys.InMemorySink input) = stream_of input ∷ []
inputs_of (phys.InMemoryMap input m) = stream_of input ∷ []
inputs_of (phys.Map input m) = stream_of input ∷ []
inputs_of (phys.Sort input by cut options) = stream_of input ∷ []
inputs_of (phys.OrderedUnion inputs) = streams_of inputs
inputs_of (phys.Zip inputs extend) = streams_of inputs
inputs_of (phys.Multiplexer input) = stream_of input ∷ []
inputs_of (phys.GroupBy input key aggs) = stream_of input ∷ []
inputs_of (phys.EquiJoin left right left_on right_on args) = stream_of left ∷ stream_of right ∷ []
inputs_of (phys.InMemoryJoin left right left_on right_on args) = stream_of left ∷ stream_of right ∷ []

abbrev pub physical_node : (Node → Tree) → PhysNode → PhysicalNode
physical_node f p = record { kind = kind_of f p.kind; schema = p.output_schema; origin = p.origin.0; inputs = inputs_of p.kind }

abbrev pub node_of_slot : (Node → Tree) → Option PhysNode → PhysicalNode
node_of_slot f o = unwrap_or (option_map (physical_node f) o) no_node

-- the nodes of a slot map, each at its number
abbrev pub nodes_of : (Node → Tree) → List (Option PhysNode) → Shape
nodes_of f slots = map (node_of_slot f) slots

-- the shape of the nodes that a root reaches
abbrev pub shown : (Node → Tree) → List (Option PhysNode) → ℕ → Shape
shown f slots root = shape_from (nodes_of f slots) root

-- whatever a node reads is there
abbrev pub ReadsWhatIsThere : List (Option PhysNode) → Type 0
ReadsWhatIsThere slots = (n : ℕ) (p : PhysNode) → value_at slots n ≡ Some p → AllByRecursion (λ (i : Stream). IsSome (value_at slots i.0)) (inputs_of p.kind)
