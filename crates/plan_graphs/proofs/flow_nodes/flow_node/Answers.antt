use Rattle.std.specs.Prelude.{Ok}
use Rattle.ps_frame.specs.Trees.{tree_at}
use Rattle.ps_phys.specs.Shown.{inputs_of}
use Rattle.ps_phys.specs.declared.phys.PhysNodeKind.TheVariants as phys
use Rattle.graph_parts.specs.Read.{schemas_read}
use Rattle.plan_graphs.proofs.Arms.{aggregates_reduce, aggregates_whole, equi_fits, filter_fits, group_names, independent_fits, join_fits, keys_whole, made_at, map_fits, reduce_names, reduce_reduces, reduce_whole, select_fits, sort_fits, stream_fits}
use Rattle.plan_graphs.proofs.flow_nodes.flow_node.Goals as goal

pub returns-in-InMemorySource-clause-made : goal.returns-in-InMemorySource-clause-made
returns-in-InMemorySource-clause-made c = made_at (tree_at c.args.expr_arena.now.items) c.args.phys.now.slots c.args.node.now.output_schema c.args.node.now.kind (phys.InMemorySource c.in-InMemorySource.df) c.in-InMemorySource.is c.source.result (c.source.ensures.made c.args.node.now.output_schema (schemas_read c.args.phys.now.slots (inputs_of (phys.InMemorySource c.in-InMemorySource.df))))

pub returns-in-InMemorySource-clause-memory : goal.returns-in-InMemorySource-clause-memory
returns-in-InMemorySource-clause-memory c = c.source.ensures.memory

pub select-requires : goal.select-requires
select-requires c = select_fits (tree_at c.args.expr_arena.now.items) c.args.phys.now.slots c.args.node.now.output_schema c.args.node.now.kind c.requires c.in-Select.input c.in-Select.selectors c.in-Select.extend_original c.in-Select.is

pub returns-in-Select-clause-made : goal.returns-in-Select-clause-made
returns-in-Select-clause-made c = made_at (tree_at c.args.expr_arena.now.items) c.args.phys.now.slots c.args.node.now.output_schema c.args.node.now.kind (phys.Select c.in-Select.input c.in-Select.selectors c.in-Select.extend_original) c.in-Select.is c.select.result (c.select.ensures.made (schemas_read c.args.phys.now.slots (inputs_of (phys.Select c.in-Select.input c.in-Select.selectors c.in-Select.extend_original))))

pub returns-in-Select-clause-memory : goal.returns-in-Select-clause-memory
returns-in-Select-clause-memory c = c.select.ensures.memory

pub returns-in-WithRowIndex-clause-made : goal.returns-in-WithRowIndex-clause-made
returns-in-WithRowIndex-clause-made c = made_at (tree_at c.args.expr_arena.now.items) c.args.phys.now.slots c.args.node.now.output_schema c.args.node.now.kind (phys.WithRowIndex c.in-WithRowIndex.input c.in-WithRowIndex.name c.in-WithRowIndex.offset) c.in-WithRowIndex.is c.row_index.result (c.row_index.ensures.made c.args.node.now.output_schema (schemas_read c.args.phys.now.slots (inputs_of (phys.WithRowIndex c.in-WithRowIndex.input c.in-WithRowIndex.name c.in-WithRowIndex.offset))))

pub returns-in-WithRowIndex-clause-memory : goal.returns-in-WithRowIndex-clause-memory
returns-in-WithRowIndex-clause-memory c = c.row_index.ensures.memory

pub independent-requires : goal.independent-requires
independent-requires c = independent_fits (tree_at c.args.expr_arena.now.items) c.args.phys.now.slots c.args.node.now.output_schema c.args.node.now.kind c.requires c.in-InputIndependentSelect.selectors c.in-InputIndependentSelect.is

pub returns-in-InputIndependentSelect-clause-made : goal.returns-in-InputIndependentSelect-clause-made
returns-in-InputIndependentSelect-clause-made c = made_at (tree_at c.args.expr_arena.now.items) c.args.phys.now.slots c.args.node.now.output_schema c.args.node.now.kind (phys.InputIndependentSelect c.in-InputIndependentSelect.selectors) c.in-InputIndependentSelect.is c.independent.result (c.independent.ensures.made c.args.node.now.output_schema (schemas_read c.args.phys.now.slots (inputs_of (phys.InputIndependentSelect c.in-InputIndependentSelect.selectors))))

pub returns-in-InputIndependentSelect-clause-memory : goal.returns-in-InputIndependentSelect-clause-memory
returns-in-InputIndependentSelect-clause-memory c = c.independent.ensures.memory

pub reduce-requires-clause-complete : goal.reduce-requires-clause-complete
reduce-requires-clause-complete c = reduce_whole (tree_at c.args.expr_arena.now.items) c.args.phys.now.slots c.args.node.now.output_schema c.args.node.now.kind c.requires c.in-Reduce.input c.in-Reduce.exprs c.in-Reduce.is

pub reduce-requires-clause-reductions : goal.reduce-requires-clause-reductions
reduce-requires-clause-reductions c = reduce_reduces (tree_at c.args.expr_arena.now.items) c.args.phys.now.slots c.args.node.now.output_schema c.args.node.now.kind c.requires c.in-Reduce.input c.in-Reduce.exprs c.in-Reduce.is

pub reduce-requires-clause-names : goal.reduce-requires-clause-names
reduce-requires-clause-names c = reduce_names (tree_at c.args.expr_arena.now.items) c.args.phys.now.slots c.args.node.now.output_schema c.args.node.now.kind c.requires c.in-Reduce.input c.in-Reduce.exprs c.in-Reduce.is

pub returns-in-Reduce-clause-made : goal.returns-in-Reduce-clause-made
returns-in-Reduce-clause-made c = made_at (tree_at c.args.expr_arena.now.items) c.args.phys.now.slots c.args.node.now.output_schema c.args.node.now.kind (phys.Reduce c.in-Reduce.input c.in-Reduce.exprs) c.in-Reduce.is c.reduce.result (c.reduce.ensures.made (schemas_read c.args.phys.now.slots (inputs_of (phys.Reduce c.in-Reduce.input c.in-Reduce.exprs))))

pub returns-in-Reduce-clause-memory : goal.returns-in-Reduce-clause-memory
returns-in-Reduce-clause-memory c = c.reduce.ensures.memory

pub returns-in-StreamingSlice-clause-made : goal.returns-in-StreamingSlice-clause-made
returns-in-StreamingSlice-clause-made c = made_at (tree_at c.args.expr_arena.now.items) c.args.phys.now.slots c.args.node.now.output_schema c.args.node.now.kind (phys.StreamingSlice c.in-StreamingSlice.input c.in-StreamingSlice.offset c.in-StreamingSlice.length) c.in-StreamingSlice.is (Ok c.slice.result) (c.slice.ensures c.args.node.now.output_schema (schemas_read c.args.phys.now.slots (inputs_of (phys.StreamingSlice c.in-StreamingSlice.input c.in-StreamingSlice.offset c.in-StreamingSlice.length))))

pub returns-in-NegativeSlice-clause-made : goal.returns-in-NegativeSlice-clause-made
returns-in-NegativeSlice-clause-made c = made_at (tree_at c.args.expr_arena.now.items) c.args.phys.now.slots c.args.node.now.output_schema c.args.node.now.kind (phys.NegativeSlice c.in-NegativeSlice.input c.in-NegativeSlice.offset c.in-NegativeSlice.length) c.in-NegativeSlice.is (Ok c.negative_slice.result) (c.negative_slice.ensures c.args.node.now.output_schema (schemas_read c.args.phys.now.slots (inputs_of (phys.NegativeSlice c.in-NegativeSlice.input c.in-NegativeSlice.offset c.in-NegativeSlice.length))))

pub filter-requires : goal.filter-requires
filter-requires c = filter_fits (tree_at c.args.expr_arena.now.items) c.args.phys.now.slots c.args.node.now.output_schema c.args.node.now.kind c.requires c.in-Filter.input c.in-Filter.predicate c.in-Filter.is

pub returns-in-Filter-clause-made : goal.returns-in-Filter-clause-made
returns-in-Filter-clause-made c = made_at (tree_at c.args.expr_arena.now.items) c.args.phys.now.slots c.args.node.now.output_schema c.args.node.now.kind (phys.Filter c.in-Filter.input c.in-Filter.predicate) c.in-Filter.is c.filter.result (c.filter.ensures.made c.args.node.now.output_schema (schemas_read c.args.phys.now.slots (inputs_of (phys.Filter c.in-Filter.input c.in-Filter.predicate))))

pub returns-in-Filter-clause-memory : goal.returns-in-Filter-clause-memory
returns-in-Filter-clause-memory c = c.filter.ensures.memory

pub returns-in-SimpleProjection-clause-made : goal.returns-in-SimpleProjection-clause-made
returns-in-SimpleProjection-clause-made c = made_at (tree_at c.args.expr_arena.now.items) c.args.phys.now.slots c.args.node.now.output_schema c.args.node.now.kind (phys.SimpleProjection c.in-SimpleProjection.input c.in-SimpleProjection.columns) c.in-SimpleProjection.is c.projection.result (c.projection.ensures.made c.args.node.now.output_schema)

pub returns-in-SimpleProjection-clause-memory : goal.returns-in-SimpleProjection-clause-memory
returns-in-SimpleProjection-clause-memory c = c.projection.ensures.memory

pub returns-in-InMemorySink-clause-made : goal.returns-in-InMemorySink-clause-made
returns-in-InMemorySink-clause-made c = made_at (tree_at c.args.expr_arena.now.items) c.args.phys.now.slots c.args.node.now.output_schema c.args.node.now.kind (phys.InMemorySink c.in-InMemorySink.input) c.in-InMemorySink.is c.sink.result (c.sink.ensures.made (schemas_read c.args.phys.now.slots (inputs_of (phys.InMemorySink c.in-InMemorySink.input))))

pub returns-in-InMemorySink-clause-memory : goal.returns-in-InMemorySink-clause-memory
returns-in-InMemorySink-clause-memory c = c.sink.ensures.memory

pub map-requires : goal.map-requires
map-requires c = map_fits (tree_at c.args.expr_arena.now.items) c.args.phys.now.slots c.args.node.now.output_schema c.args.node.now.kind c.requires c.in-InMemoryMap.input c.in-InMemoryMap.map c.in-InMemoryMap.is

pub returns-in-InMemoryMap-clause-made : goal.returns-in-InMemoryMap-clause-made
returns-in-InMemoryMap-clause-made c = made_at (tree_at c.args.expr_arena.now.items) c.args.phys.now.slots c.args.node.now.output_schema c.args.node.now.kind (phys.InMemoryMap c.in-InMemoryMap.input c.in-InMemoryMap.map) c.in-InMemoryMap.is c.map.result (c.map.ensures.made c.args.node.now.output_schema)

pub returns-in-InMemoryMap-clause-memory : goal.returns-in-InMemoryMap-clause-memory
returns-in-InMemoryMap-clause-memory c = c.map.ensures.memory

pub stream_map-requires : goal.stream_map-requires
stream_map-requires c = stream_fits (tree_at c.args.expr_arena.now.items) c.args.phys.now.slots c.args.node.now.output_schema c.args.node.now.kind c.requires c.in-Map.input c.in-Map.map c.in-Map.is

pub returns-in-Map-clause-made : goal.returns-in-Map-clause-made
returns-in-Map-clause-made c = made_at (tree_at c.args.expr_arena.now.items) c.args.phys.now.slots c.args.node.now.output_schema c.args.node.now.kind (phys.Map c.in-Map.input c.in-Map.map) c.in-Map.is (Ok c.stream_map.result) (c.stream_map.ensures (tree_at c.args.expr_arena.now.items) c.args.node.now.output_schema (schemas_read c.args.phys.now.slots (inputs_of (phys.Map c.in-Map.input c.in-Map.map))))

pub sort-requires : goal.sort-requires
sort-requires c = sort_fits (tree_at c.args.expr_arena.now.items) c.args.phys.now.slots c.args.node.now.output_schema c.args.node.now.kind c.requires c.in-Sort.input c.in-Sort.by_column c.in-Sort.slice c.in-Sort.sort_options c.in-Sort.is

pub returns-in-Sort-clause-made : goal.returns-in-Sort-clause-made
returns-in-Sort-clause-made c = made_at (tree_at c.args.expr_arena.now.items) c.args.phys.now.slots c.args.node.now.output_schema c.args.node.now.kind (phys.Sort c.in-Sort.input c.in-Sort.by_column c.in-Sort.slice c.in-Sort.sort_options) c.in-Sort.is c.sort.result (c.sort.ensures.made c.args.node.now.output_schema)

pub returns-in-Sort-clause-memory : goal.returns-in-Sort-clause-memory
returns-in-Sort-clause-memory c = c.sort.ensures.memory

pub returns-in-OrderedUnion-clause-made : goal.returns-in-OrderedUnion-clause-made
returns-in-OrderedUnion-clause-made c = made_at (tree_at c.args.expr_arena.now.items) c.args.phys.now.slots c.args.node.now.output_schema c.args.node.now.kind (phys.OrderedUnion c.in-OrderedUnion.inputs) c.in-OrderedUnion.is (Ok c.union.result) (c.union.ensures c.args.node.now.output_schema (schemas_read c.args.phys.now.slots (inputs_of (phys.OrderedUnion c.in-OrderedUnion.inputs))))

pub returns-in-Zip-clause-made : goal.returns-in-Zip-clause-made
returns-in-Zip-clause-made c = made_at (tree_at c.args.expr_arena.now.items) c.args.phys.now.slots c.args.node.now.output_schema c.args.node.now.kind (phys.Zip c.in-Zip.inputs c.in-Zip.null_extend) c.in-Zip.is c.zip.result (c.zip.ensures.made c.args.node.now.output_schema)

pub returns-in-Zip-clause-memory : goal.returns-in-Zip-clause-memory
returns-in-Zip-clause-memory c = c.zip.ensures.memory

pub returns-in-Multiplexer-clause-made : goal.returns-in-Multiplexer-clause-made
returns-in-Multiplexer-clause-made c = made_at (tree_at c.args.expr_arena.now.items) c.args.phys.now.slots c.args.node.now.output_schema c.args.node.now.kind (phys.Multiplexer c.in-Multiplexer.input) c.in-Multiplexer.is (Ok c.multiplexer.result) (c.multiplexer.ensures c.args.node.now.output_schema (schemas_read c.args.phys.now.slots (inputs_of (phys.Multiplexer c.in-Multiplexer.input))))

pub group_by-requires-clause-keys : goal.group_by-requires-clause-keys
group_by-requires-clause-keys c = keys_whole (tree_at c.args.expr_arena.now.items) c.args.phys.now.slots c.args.node.now.output_schema c.args.node.now.kind c.requires c.in-GroupBy.input c.in-GroupBy.key c.in-GroupBy.aggs c.in-GroupBy.is

pub group_by-requires-clause-complete : goal.group_by-requires-clause-complete
group_by-requires-clause-complete c = aggregates_whole (tree_at c.args.expr_arena.now.items) c.args.phys.now.slots c.args.node.now.output_schema c.args.node.now.kind c.requires c.in-GroupBy.input c.in-GroupBy.key c.in-GroupBy.aggs c.in-GroupBy.is

pub group_by-requires-clause-reductions : goal.group_by-requires-clause-reductions
group_by-requires-clause-reductions c = aggregates_reduce (tree_at c.args.expr_arena.now.items) c.args.phys.now.slots c.args.node.now.output_schema c.args.node.now.kind c.requires c.in-GroupBy.input c.in-GroupBy.key c.in-GroupBy.aggs c.in-GroupBy.is

pub group_by-requires-clause-names : goal.group_by-requires-clause-names
group_by-requires-clause-names c = group_names (tree_at c.args.expr_arena.now.items) c.args.phys.now.slots c.args.node.now.output_schema c.args.node.now.kind c.requires c.in-GroupBy.input c.in-GroupBy.key c.in-GroupBy.aggs c.in-GroupBy.is

pub returns-in-GroupBy-clause-made : goal.returns-in-GroupBy-clause-made
returns-in-GroupBy-clause-made c = made_at (tree_at c.args.expr_arena.now.items) c.args.phys.now.slots c.args.node.now.output_schema c.args.node.now.kind (phys.GroupBy c.in-GroupBy.input c.in-GroupBy.key c.in-GroupBy.aggs) c.in-GroupBy.is c.group_by.result (c.group_by.ensures.made (schemas_read c.args.phys.now.slots (inputs_of (phys.GroupBy c.in-GroupBy.input c.in-GroupBy.key c.in-GroupBy.aggs))))

pub returns-in-GroupBy-clause-memory : goal.returns-in-GroupBy-clause-memory
returns-in-GroupBy-clause-memory c = c.group_by.ensures.memory

pub equi_join-requires-clause-left : goal.equi_join-requires-clause-left
equi_join-requires-clause-left c = (equi_fits (tree_at c.args.expr_arena.now.items) c.args.phys.now.slots c.args.node.now.output_schema c.args.node.now.kind c.requires c.in-EquiJoin.input_left c.in-EquiJoin.input_right c.in-EquiJoin.left_on c.in-EquiJoin.right_on c.in-EquiJoin.args c.in-EquiJoin.is).0

pub equi_join-requires-clause-right : goal.equi_join-requires-clause-right
equi_join-requires-clause-right c = (equi_fits (tree_at c.args.expr_arena.now.items) c.args.phys.now.slots c.args.node.now.output_schema c.args.node.now.kind c.requires c.in-EquiJoin.input_left c.in-EquiJoin.input_right c.in-EquiJoin.left_on c.in-EquiJoin.right_on c.in-EquiJoin.args c.in-EquiJoin.is).1

pub returns-in-EquiJoin-clause-made : goal.returns-in-EquiJoin-clause-made
returns-in-EquiJoin-clause-made c = made_at (tree_at c.args.expr_arena.now.items) c.args.phys.now.slots c.args.node.now.output_schema c.args.node.now.kind (phys.EquiJoin c.in-EquiJoin.input_left c.in-EquiJoin.input_right c.in-EquiJoin.left_on c.in-EquiJoin.right_on c.in-EquiJoin.args) c.in-EquiJoin.is c.equi_join.result (c.equi_join.ensures.made)

pub returns-in-EquiJoin-clause-memory : goal.returns-in-EquiJoin-clause-memory
returns-in-EquiJoin-clause-memory c = c.equi_join.ensures.memory

pub join-requires-clause-left : goal.join-requires-clause-left
join-requires-clause-left c = (join_fits (tree_at c.args.expr_arena.now.items) c.args.phys.now.slots c.args.node.now.output_schema c.args.node.now.kind c.requires c.in-InMemoryJoin.input_left c.in-InMemoryJoin.input_right c.in-InMemoryJoin.left_on c.in-InMemoryJoin.right_on c.in-InMemoryJoin.args c.in-InMemoryJoin.is).0

pub join-requires-clause-right : goal.join-requires-clause-right
join-requires-clause-right c = (join_fits (tree_at c.args.expr_arena.now.items) c.args.phys.now.slots c.args.node.now.output_schema c.args.node.now.kind c.requires c.in-InMemoryJoin.input_left c.in-InMemoryJoin.input_right c.in-InMemoryJoin.left_on c.in-InMemoryJoin.right_on c.in-InMemoryJoin.args c.in-InMemoryJoin.is).1

pub returns-in-InMemoryJoin-clause-made : goal.returns-in-InMemoryJoin-clause-made
returns-in-InMemoryJoin-clause-made c = made_at (tree_at c.args.expr_arena.now.items) c.args.phys.now.slots c.args.node.now.output_schema c.args.node.now.kind (phys.InMemoryJoin c.in-InMemoryJoin.input_left c.in-InMemoryJoin.input_right c.in-InMemoryJoin.left_on c.in-InMemoryJoin.right_on c.in-InMemoryJoin.args) c.in-InMemoryJoin.is c.join.result (c.join.ensures.made)

pub returns-in-InMemoryJoin-clause-memory : goal.returns-in-InMemoryJoin-clause-memory
returns-in-InMemoryJoin-clause-memory c = c.join.ensures.memory
