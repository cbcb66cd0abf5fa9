-- A node of a graph is a plain one, or it evaluates a map or a join over whole tables.
use Rattle.plain_nodes.specs.Plain.{PlainNode}
use Rattle.plain_nodes.specs.Plain as plain
use Rattle.ps_nodes.specs.declared.flow.FlowNode.{FlowNode}
use Rattle.ps_nodes.specs.declared.flow.FlowNode.TheVariants as flow
use Rattle.ps_nodes.specs.declared.in_memory_join.InMemoryJoinNode.{InMemoryJoinNode}
use Rattle.ps_nodes.specs.declared.in_memory_map.InMemoryMapNode.{InMemoryMapNode}

pub data Form : Type 0 where
  plain_node : PlainNode → Form
  map_node : InMemoryMapNode → Form
  join_node : InMemoryJoinNode → Form

abbrev pub form_of : FlowNode → Form
form_of (flow.Filter n) = plain_node (plain.filter n)
form_of (flow.Select n) = plain_node (plain.select n)
form_of (flow.InputIndependentSelect n) = plain_node (plain.independent_select n)
form_of (flow.SimpleProjection n) = plain_node (plain.simple_projection n)
form_of (flow.WithRowIndex n) = plain_node (plain.with_row_index n)
form_of (flow.Map n) = plain_node (plain.map n)
form_of (flow.StreamingSlice n) = plain_node (plain.streaming_slice n)
form_of (flow.NegativeSlice n) = plain_node (plain.negative_slice n)
form_of (flow.InMemorySource n) = plain_node (plain.in_memory_source n)
form_of (flow.OrderedUnion n) = plain_node (plain.ordered_union n)
form_of (flow.Multiplexer n) = plain_node (plain.multiplexer n)
form_of (flow.InMemorySink n) = plain_node (plain.in_memory_sink n)
form_of (flow.Zip n) = plain_node (plain.zip n)
form_of (flow.Reduce n) = plain_node (plain.reduce n)
form_of (flow.GroupBy n) = plain_node (plain.group_by n)
form_of (flow.EquiJoin n) = plain_node (plain.equi_join n)
form_of (flow.InMemoryMap n) = map_node n
form_of (flow.InMemoryJoin n) = join_node n
