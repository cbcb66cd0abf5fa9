-- The plain nodes of a graph: those that evaluate no map and no join over whole tables.
use Rattle.plain_nodes.specs.declared.equi_join.EquiJoinNode.{EquiJoinNode}
use Rattle.plain_nodes.specs.declared.filter.FilterNode.{FilterNode}
use Rattle.plain_nodes.specs.declared.group_by.GroupByNode.{GroupByNode}
use Rattle.plain_nodes.specs.declared.independent_select.InputIndependentSelectNode.{InputIndependentSelectNode}
use Rattle.plain_nodes.specs.declared.map.MapNode.{MapNode}
use Rattle.plain_nodes.specs.declared.multiplexer.MultiplexerNode.{MultiplexerNode}
use Rattle.plain_nodes.specs.declared.negative_slice.NegativeSliceNode.{NegativeSliceNode}
use Rattle.plain_nodes.specs.declared.ordered_union.OrderedUnionNode.{OrderedUnionNode}
use Rattle.plain_nodes.specs.declared.projection.SimpleProjectionNode.{SimpleProjectionNode}
use Rattle.plain_nodes.specs.declared.reduce.ReduceNode.{ReduceNode}
use Rattle.plain_nodes.specs.declared.row_index.WithRowIndexNode.{WithRowIndexNode}
use Rattle.plain_nodes.specs.declared.select.SelectNode.{SelectNode}
use Rattle.plain_nodes.specs.declared.sink.InMemorySinkNode.{InMemorySinkNode}
use Rattle.plain_nodes.specs.declared.slice.StreamingSliceNode.{StreamingSliceNode}
use Rattle.plain_nodes.specs.declared.source.InMemorySourceNode.{InMemorySourceNode}
use Rattle.plain_nodes.specs.declared.zip.ZipNode.{ZipNode}

pub data PlainNode : Type 0 where
  filter : FilterNode → PlainNode
  select : SelectNode → PlainNode
  independent_select : InputIndependentSelectNode → PlainNode
  simple_projection : SimpleProjectionNode → PlainNode
  with_row_index : WithRowIndexNode → PlainNode
  map : MapNode → PlainNode
  streaming_slice : StreamingSliceNode → PlainNode
  negative_slice : NegativeSliceNode → PlainNode
  in_memory_source : InMemorySourceNode → PlainNode
  ordered_union : OrderedUnionNode → PlainNode
  multiplexer : MultiplexerNode → PlainNode
  in_memory_sink : InMemorySinkNode → PlainNode
  zip : ZipNode → PlainNode
  reduce : ReduceNode → PlainNode
  group_by : GroupByNode → PlainNode
  equi_join : EquiJoinNode → PlainNode
