use Rattle.std.proofs.Common.{[], ◌∷◌, Ok, refl, rules, subst, sym}
use Rattle.ps_frame.specs.Trees.{tree_at}
use Rattle.ps_meaning.specs.StepRefusals.{NamesMissingFunction}
use Rattle.ps_meaning.specs.Steps.{exprs_of, key_trees, named_trees}
use Rattle.ps_phys.specs.Shown.{stream_of, streams_of}
use Rattle.ps_plan.specs.Entries.{entry_step}
use Rattle.ps_plan.specs.declared.ir.IR.{IR}
use Rattle.ps_plan.specs.declared.ir.IR.TheVariants as entry
use Rattle.valid_plans.proofs.Growing.{left-complete, right-complete}
use Rattle.lowering_parts.proofs.Going.{begins_same, goes_nowhere}
use Rattle.node_lowering.proofs.AnswerLemmas.{goes_with_nodes}
use Rattle.plan_lowering.proofs.StepLemmas.{by_nodes, by_rule, first_is, keys_whole, none_left_out, of_entry, over_both, over_first, over_function, second_is}
use Rattle.plan_lowering.proofs.steps.step_stream.Goals as goal

pub returns-in-DataFrameScan-clause-makes : goal.returns-in-DataFrameScan-clause-makes
returns-in-DataFrameScan-clause-makes g c =
    by_nodes (g.F.Functions.told c.args.functions.now) c.args.schema.now (streams_of c.args.inputs.items) [] c.args.entry.now (entry.DataFrameScan c.in-DataFrameScan.df c.in-DataFrameScan.projection) c.in-DataFrameScan.is c.args.arena.now.items c.args.low.now c.scan_stream.result c.scan_stream.new.low c.requires.whole c.requires.cache (λ f. refl) c.scan_stream.ensures.made c.scan_stream.ensures.nodes c.scan_stream.ensures.others

pub returns-in-DataFrameScan-clause-goes_on : goal.returns-in-DataFrameScan-clause-goes_on
returns-in-DataFrameScan-clause-goes_on g c = goes_with_nodes c.args.arena.now.items c.args.low.now c.scan_stream.new.low c.requires.cache c.scan_stream.ensures.nodes c.scan_stream.ensures.others

pub returns-in-SimpleProjection-clause-makes : goal.returns-in-SimpleProjection-clause-makes
returns-in-SimpleProjection-clause-makes g c =
    by_nodes (g.F.Functions.told c.args.functions.now) c.args.schema.now (streams_of c.args.inputs.items) (stream_of c.first_of-first.result ∷ []) c.args.entry.now (entry.SimpleProjection c.in-SimpleProjection.input c.in-SimpleProjection.columns) c.in-SimpleProjection.is c.args.arena.now.items c.args.low.now c.projection_stream.result c.projection_stream.new.low c.requires.whole c.requires.cache (λ f. over_first c.args.low.now.origin.0 (g.F.Functions.told c.args.functions.now) (entry_step f (entry.SimpleProjection c.in-SimpleProjection.input c.in-SimpleProjection.columns)) c.args.schema.now (streams_of c.args.inputs.items) (stream_of c.first_of-first.result) (first_is c.as_slice.result.now c.args.inputs.items c.first_of-first.result c.as_slice.ensures.value c.first_of-first.ensures)) c.projection_stream.ensures.made c.projection_stream.ensures.nodes c.projection_stream.ensures.others

pub returns-in-SimpleProjection-clause-goes_on : goal.returns-in-SimpleProjection-clause-goes_on
returns-in-SimpleProjection-clause-goes_on g c = goes_with_nodes c.args.arena.now.items c.args.low.now c.projection_stream.new.low c.requires.cache c.projection_stream.ensures.nodes c.projection_stream.ensures.others

pub returns-in-Select-clause-makes : goal.returns-in-Select-clause-makes
returns-in-Select-clause-makes g c =
    by_rule (g.F.Functions.told c.args.functions.now) c.args.schema.now (streams_of c.args.inputs.items) (stream_of c.first_of-first.result ∷ []) c.args.entry.now (entry.Select c.in-Select.input c.in-Select.expr) c.in-Select.is c.args.arena.now.items c.args.low.now c.selected.result c.selected.new.arena.items c.selected.new.low (over_first c.args.low.now.origin.0 (g.F.Functions.told c.args.functions.now) (entry_step (tree_at c.args.arena.now.items) (entry.Select c.in-Select.input c.in-Select.expr)) c.args.schema.now (streams_of c.args.inputs.items) (stream_of c.first_of-first.result) (first_is c.as_slice.result.now c.args.inputs.items c.first_of-first.result c.as_slice.ensures.value c.first_of-first.ensures)) c.selected.ensures.makes

pub returns-in-Select-clause-goes_on : goal.returns-in-Select-clause-goes_on
returns-in-Select-clause-goes_on g c = c.selected.ensures.goes_on

pub returns-in-HStack-clause-makes : goal.returns-in-HStack-clause-makes
returns-in-HStack-clause-makes g c =
    by_rule (g.F.Functions.told c.args.functions.now) c.args.schema.now (streams_of c.args.inputs.items) (stream_of c.first_of-first.result ∷ []) c.args.entry.now (entry.HStack c.in-HStack.input c.in-HStack.exprs) c.in-HStack.is c.args.arena.now.items c.args.low.now c.further_columns_stream.result c.further_columns_stream.new.arena.items c.further_columns_stream.new.low (over_first c.args.low.now.origin.0 (g.F.Functions.told c.args.functions.now) (entry_step (tree_at c.args.arena.now.items) (entry.HStack c.in-HStack.input c.in-HStack.exprs)) c.args.schema.now (streams_of c.args.inputs.items) (stream_of c.first_of-first.result) (first_is c.as_slice.result.now c.args.inputs.items c.first_of-first.result c.as_slice.ensures.value c.first_of-first.ensures)) c.further_columns_stream.ensures.makes

pub returns-in-HStack-clause-goes_on : goal.returns-in-HStack-clause-goes_on
returns-in-HStack-clause-goes_on g c = c.further_columns_stream.ensures.goes_on

pub returns-in-Filter-clause-makes : goal.returns-in-Filter-clause-makes
returns-in-Filter-clause-makes g c =
    by_rule (g.F.Functions.told c.args.functions.now) c.args.schema.now (streams_of c.args.inputs.items) (stream_of c.first_of-first.result ∷ []) c.args.entry.now (entry.Filter c.in-Filter.input c.in-Filter.predicate) c.in-Filter.is c.args.arena.now.items c.args.low.now c.filter_stream.result c.filter_stream.new.arena.items c.filter_stream.new.low (over_first c.args.low.now.origin.0 (g.F.Functions.told c.args.functions.now) (entry_step (tree_at c.args.arena.now.items) (entry.Filter c.in-Filter.input c.in-Filter.predicate)) c.args.schema.now (streams_of c.args.inputs.items) (stream_of c.first_of-first.result) (first_is c.as_slice.result.now c.args.inputs.items c.first_of-first.result c.as_slice.ensures.value c.first_of-first.ensures)) c.filter_stream.ensures.makes

pub returns-in-Filter-clause-goes_on : goal.returns-in-Filter-clause-goes_on
returns-in-Filter-clause-goes_on g c = c.filter_stream.ensures.goes_on

pub returns-in-Slice-clause-makes : goal.returns-in-Slice-clause-makes
returns-in-Slice-clause-makes g c =
    by_nodes (g.F.Functions.told c.args.functions.now) c.args.schema.now (streams_of c.args.inputs.items) (stream_of c.first_of-first.result ∷ []) c.args.entry.now (entry.Slice c.in-Slice.input c.in-Slice.offset c.in-Slice.len) c.in-Slice.is c.args.arena.now.items c.args.low.now c.sliced.result c.sliced.new.low c.requires.whole c.requires.cache (λ f. over_first c.args.low.now.origin.0 (g.F.Functions.told c.args.functions.now) (entry_step f (entry.Slice c.in-Slice.input c.in-Slice.offset c.in-Slice.len)) c.args.schema.now (streams_of c.args.inputs.items) (stream_of c.first_of-first.result) (first_is c.as_slice.result.now c.args.inputs.items c.first_of-first.result c.as_slice.ensures.value c.first_of-first.ensures)) c.sliced.ensures.made c.sliced.ensures.nodes c.sliced.ensures.others

pub returns-in-Slice-clause-goes_on : goal.returns-in-Slice-clause-goes_on
returns-in-Slice-clause-goes_on g c = goes_with_nodes c.args.arena.now.items c.args.low.now c.sliced.new.low c.requires.cache c.sliced.ensures.nodes c.sliced.ensures.others

pub returns-in-Sink-clause-makes : goal.returns-in-Sink-clause-makes
returns-in-Sink-clause-makes g c =
    by_nodes (g.F.Functions.told c.args.functions.now) c.args.schema.now (streams_of c.args.inputs.items) (stream_of c.first_of-first.result ∷ []) c.args.entry.now (entry.Sink c.in-Sink.input c.in-Sink.payload) c.in-Sink.is c.args.arena.now.items c.args.low.now c.sink_stream.result c.sink_stream.new.low c.requires.whole c.requires.cache (λ f. over_first c.args.low.now.origin.0 (g.F.Functions.told c.args.functions.now) (entry_step f (entry.Sink c.in-Sink.input c.in-Sink.payload)) c.args.schema.now (streams_of c.args.inputs.items) (stream_of c.first_of-first.result) (first_is c.as_slice.result.now c.args.inputs.items c.first_of-first.result c.as_slice.ensures.value c.first_of-first.ensures)) c.sink_stream.ensures.made c.sink_stream.ensures.nodes c.sink_stream.ensures.others

pub returns-in-Sink-clause-goes_on : goal.returns-in-Sink-clause-goes_on
returns-in-Sink-clause-goes_on g c = goes_with_nodes c.args.arena.now.items c.args.low.now c.sink_stream.new.low c.requires.cache c.sink_stream.ensures.nodes c.sink_stream.ensures.others

pub returns-in-MapFunction-clause-makes : goal.returns-in-MapFunction-clause-makes
returns-in-MapFunction-clause-makes g c =
    by_nodes (g.F.Functions.told c.args.functions.now) c.args.schema.now (streams_of c.args.inputs.items) (stream_of c.first_of-first.result ∷ []) c.args.entry.now (entry.MapFunction c.in-MapFunction.input c.in-MapFunction.function) c.in-MapFunction.is c.args.arena.now.items c.args.low.now c.called.result c.called.new.low c.requires.whole c.requires.cache (λ f. over_function c.args.low.now.origin.0 (g.F.Functions.told c.args.functions.now) c.in-MapFunction.function c.args.schema.now (streams_of c.args.inputs.items) (stream_of c.first_of-first.result) (first_is c.as_slice.result.now c.args.inputs.items c.first_of-first.result c.as_slice.ensures.value c.first_of-first.ensures)) c.called.ensures.made c.called.ensures.nodes c.called.ensures.others

pub returns-in-MapFunction-clause-goes_on : goal.returns-in-MapFunction-clause-goes_on
returns-in-MapFunction-clause-goes_on g c = goes_with_nodes c.args.arena.now.items c.args.low.now c.called.new.low c.requires.cache c.called.ensures.nodes c.called.ensures.others

pub returns-in-Sort-clause-makes : goal.returns-in-Sort-clause-makes
returns-in-Sort-clause-makes g c =
    by_nodes (g.F.Functions.told c.args.functions.now) c.args.schema.now (streams_of c.args.inputs.items) (stream_of c.first_of-first.result ∷ []) c.args.entry.now (entry.Sort c.in-Sort.input c.in-Sort.by_column c.in-Sort.slice c.in-Sort.sort_options) c.in-Sort.is c.args.arena.now.items c.args.low.now c.sort_stream.result c.sort_stream.new.low c.requires.whole c.requires.cache (λ f. over_first c.args.low.now.origin.0 (g.F.Functions.told c.args.functions.now) (entry_step f (entry.Sort c.in-Sort.input c.in-Sort.by_column c.in-Sort.slice c.in-Sort.sort_options)) c.args.schema.now (streams_of c.args.inputs.items) (stream_of c.first_of-first.result) (first_is c.as_slice.result.now c.args.inputs.items c.first_of-first.result c.as_slice.ensures.value c.first_of-first.ensures)) c.sort_stream.ensures.made c.sort_stream.ensures.nodes c.sort_stream.ensures.others

pub returns-in-Sort-clause-goes_on : goal.returns-in-Sort-clause-goes_on
returns-in-Sort-clause-goes_on g c = goes_with_nodes c.args.arena.now.items c.args.low.now c.sort_stream.new.low c.requires.cache c.sort_stream.ensures.nodes c.sort_stream.ensures.others

pub returns-in-Union-clause-makes : goal.returns-in-Union-clause-makes
returns-in-Union-clause-makes g c =
    by_nodes (g.F.Functions.told c.args.functions.now) c.args.schema.now (streams_of c.args.inputs.items) (streams_of c.args.inputs.items) c.args.entry.now (entry.Union c.in-Union.inputs c.in-Union.options) c.in-Union.is c.args.arena.now.items c.args.low.now c.union_stream.result c.union_stream.new.low c.requires.whole c.requires.cache (λ f. refl) c.union_stream.ensures.made c.union_stream.ensures.nodes c.union_stream.ensures.others

pub returns-in-Union-clause-goes_on : goal.returns-in-Union-clause-goes_on
returns-in-Union-clause-goes_on g c = goes_with_nodes c.args.arena.now.items c.args.low.now c.union_stream.new.low c.requires.cache c.union_stream.ensures.nodes c.union_stream.ensures.others

pub returns-in-HConcat-clause-makes : goal.returns-in-HConcat-clause-makes
returns-in-HConcat-clause-makes g c =
    by_nodes (g.F.Functions.told c.args.functions.now) c.args.schema.now (streams_of c.args.inputs.items) (streams_of c.args.inputs.items) c.args.entry.now (entry.HConcat c.in-HConcat.inputs) c.in-HConcat.is c.args.arena.now.items c.args.low.now c.hconcat_stream.result c.hconcat_stream.new.low c.requires.whole c.requires.cache (λ f. refl) c.hconcat_stream.ensures.made c.hconcat_stream.ensures.nodes c.hconcat_stream.ensures.others

pub returns-in-HConcat-clause-goes_on : goal.returns-in-HConcat-clause-goes_on
returns-in-HConcat-clause-goes_on g c = goes_with_nodes c.args.arena.now.items c.args.low.now c.hconcat_stream.new.low c.requires.cache c.hconcat_stream.ensures.nodes c.hconcat_stream.ensures.others

pub returns-in-Cache-clause-makes : goal.returns-in-Cache-clause-makes
returns-in-Cache-clause-makes g c =
    by_nodes (g.F.Functions.told c.args.functions.now) c.args.schema.now (streams_of c.args.inputs.items) (stream_of c.first_of-first.result ∷ []) c.args.entry.now (entry.Cache c.in-Cache.input c.in-Cache.id c.in-Cache.cache_hits) c.in-Cache.is c.args.arena.now.items c.args.low.now (Ok c.first_of-first.result) c.args.low.now c.requires.whole c.requires.cache (λ f. over_first c.args.low.now.origin.0 (g.F.Functions.told c.args.functions.now) (entry_step f (entry.Cache c.in-Cache.input c.in-Cache.id c.in-Cache.cache_hits)) c.args.schema.now (streams_of c.args.inputs.items) (stream_of c.first_of-first.result) (first_is c.as_slice.result.now c.args.inputs.items c.first_of-first.result c.as_slice.ensures.value c.first_of-first.ensures)) (λ f. refl) (begins_same c.args.low.now.phys_sm.slots) refl

pub returns-in-Cache-clause-goes_on : goal.returns-in-Cache-clause-goes_on
returns-in-Cache-clause-goes_on g c = goes_nowhere c.args.arena.now.items c.args.low.now c.args.low.now c.requires.cache refl

pub returns-in-GroupBy-clause-makes : goal.returns-in-GroupBy-clause-makes
returns-in-GroupBy-clause-makes g c =
    by_rule (g.F.Functions.told c.args.functions.now) c.args.schema.now (streams_of c.args.inputs.items) (stream_of c.first_of-first.result ∷ []) c.args.entry.now (entry.GroupBy c.in-GroupBy.input c.in-GroupBy.keys c.in-GroupBy.aggs c.in-GroupBy.maintain_order c.in-GroupBy.options) c.in-GroupBy.is c.args.arena.now.items c.args.low.now c.grouped.result c.grouped.new.arena.items c.grouped.new.low (over_first c.args.low.now.origin.0 (g.F.Functions.told c.args.functions.now) (entry_step (tree_at c.args.arena.now.items) (entry.GroupBy c.in-GroupBy.input c.in-GroupBy.keys c.in-GroupBy.aggs c.in-GroupBy.maintain_order c.in-GroupBy.options)) c.args.schema.now (streams_of c.args.inputs.items) (stream_of c.first_of-first.result) (first_is c.as_slice.result.now c.args.inputs.items c.first_of-first.result c.as_slice.ensures.value c.first_of-first.ensures)) c.grouped.ensures.makes

pub returns-in-GroupBy-clause-goes_on : goal.returns-in-GroupBy-clause-goes_on
returns-in-GroupBy-clause-goes_on g c = c.grouped.ensures.goes_on

pub returns-in-Join-clause-makes : goal.returns-in-Join-clause-makes
returns-in-Join-clause-makes g c =
    by_rule (g.F.Functions.told c.args.functions.now) c.args.schema.now (streams_of c.args.inputs.items) (stream_of c.first_of-first.result ∷ stream_of c.second_of-second.result ∷ []) c.args.entry.now (entry.Join c.in-Join.input_left c.in-Join.input_right c.in-Join.left_on c.in-Join.right_on c.in-Join.options) c.in-Join.is c.args.arena.now.items c.args.low.now c.join_stream.result c.join_stream.new.arena.items c.join_stream.new.low (over_both c.args.low.now.origin.0 (g.F.Functions.told c.args.functions.now) (entry_step (tree_at c.args.arena.now.items) (entry.Join c.in-Join.input_left c.in-Join.input_right c.in-Join.left_on c.in-Join.right_on c.in-Join.options)) c.args.schema.now (streams_of c.args.inputs.items) (stream_of c.first_of-first.result) (stream_of c.second_of-second.result) (first_is c.as_slice.result.now c.args.inputs.items c.first_of-first.result c.as_slice.ensures.value c.first_of-first.ensures) (second_is c.as_slice-2.result.now c.args.inputs.items c.second_of-second.result c.as_slice-2.ensures.value c.second_of-second.ensures)) c.join_stream.ensures.makes

pub returns-in-Join-clause-goes_on : goal.returns-in-Join-clause-goes_on
returns-in-Join-clause-goes_on g c = c.join_stream.ensures.goes_on

pub returns-in-Distinct-clause-makes : goal.returns-in-Distinct-clause-makes
returns-in-Distinct-clause-makes g c =
    by_rule (g.F.Functions.told c.args.functions.now) c.args.schema.now (streams_of c.args.inputs.items) (stream_of c.first_of-first.result ∷ []) c.args.entry.now (entry.Distinct c.in-Distinct.input c.in-Distinct.options) c.in-Distinct.is c.args.arena.now.items c.args.low.now c.distinct_rows.result c.distinct_rows.new.arena.items c.distinct_rows.new.low (over_first c.args.low.now.origin.0 (g.F.Functions.told c.args.functions.now) (entry_step (tree_at c.args.arena.now.items) (entry.Distinct c.in-Distinct.input c.in-Distinct.options)) c.args.schema.now (streams_of c.args.inputs.items) (stream_of c.first_of-first.result) (first_is c.as_slice.result.now c.args.inputs.items c.first_of-first.result c.as_slice.ensures.value c.first_of-first.ensures)) c.distinct_rows.ensures.makes

pub returns-in-Distinct-clause-goes_on : goal.returns-in-Distinct-clause-goes_on
returns-in-Distinct-clause-goes_on g c = c.distinct_rows.ensures.goes_on

pub selected-requires-clause-whole : goal.selected-requires-clause-whole
selected-requires-clause-whole g c = keys_whole (tree_at c.args.arena.now.items) c.in-Select.expr (of_entry (tree_at c.args.arena.now.items) c.args.entry.now (entry.Select c.in-Select.input c.in-Select.expr) c.in-Select.is c.requires.whole)

pub further_columns_stream-requires-clause-whole : goal.further_columns_stream-requires-clause-whole
further_columns_stream-requires-clause-whole g c = keys_whole (tree_at c.args.arena.now.items) c.in-HStack.exprs (of_entry (tree_at c.args.arena.now.items) c.args.entry.now (entry.HStack c.in-HStack.input c.in-HStack.exprs) c.in-HStack.is c.requires.whole)

pub filter_stream-requires-clause-whole : goal.filter_stream-requires-clause-whole
filter_stream-requires-clause-whole g c = (of_entry (tree_at c.args.arena.now.items) c.args.entry.now (entry.Filter c.in-Filter.input c.in-Filter.predicate) c.in-Filter.is c.requires.whole).0

pub grouped-requires-clause-keys : goal.grouped-requires-clause-keys
grouped-requires-clause-keys g c = keys_whole (tree_at c.args.arena.now.items) c.in-GroupBy.keys (left-complete (exprs_of (named_trees (tree_at c.args.arena.now.items) c.in-GroupBy.keys)) (exprs_of (named_trees (tree_at c.args.arena.now.items) c.in-GroupBy.aggs)) (of_entry (tree_at c.args.arena.now.items) c.args.entry.now (entry.GroupBy c.in-GroupBy.input c.in-GroupBy.keys c.in-GroupBy.aggs c.in-GroupBy.maintain_order c.in-GroupBy.options) c.in-GroupBy.is c.requires.whole))

pub grouped-requires-clause-aggs : goal.grouped-requires-clause-aggs
grouped-requires-clause-aggs g c = keys_whole (tree_at c.args.arena.now.items) c.in-GroupBy.aggs (right-complete (exprs_of (named_trees (tree_at c.args.arena.now.items) c.in-GroupBy.keys)) (exprs_of (named_trees (tree_at c.args.arena.now.items) c.in-GroupBy.aggs)) (of_entry (tree_at c.args.arena.now.items) c.args.entry.now (entry.GroupBy c.in-GroupBy.input c.in-GroupBy.keys c.in-GroupBy.aggs c.in-GroupBy.maintain_order c.in-GroupBy.options) c.in-GroupBy.is c.requires.whole))

pub join_stream-requires-clause-left_whole : goal.join_stream-requires-clause-left_whole
join_stream-requires-clause-left_whole g c = left-complete (key_trees (tree_at c.args.arena.now.items) c.in-Join.left_on) (key_trees (tree_at c.args.arena.now.items) c.in-Join.right_on) (of_entry (tree_at c.args.arena.now.items) c.args.entry.now (entry.Join c.in-Join.input_left c.in-Join.input_right c.in-Join.left_on c.in-Join.right_on c.in-Join.options) c.in-Join.is c.requires.whole)

pub join_stream-requires-clause-right_whole : goal.join_stream-requires-clause-right_whole
join_stream-requires-clause-right_whole g c = right-complete (key_trees (tree_at c.args.arena.now.items) c.in-Join.left_on) (key_trees (tree_at c.args.arena.now.items) c.in-Join.right_on) (of_entry (tree_at c.args.arena.now.items) c.args.entry.now (entry.Join c.in-Join.input_left c.in-Join.input_right c.in-Join.left_on c.in-Join.right_on c.in-Join.options) c.in-Join.is c.requires.whole)

pub called-requires : goal.called-requires
called-requires g c = (search rules, λ missing. c.requires.function (subst (λ (e : IR). NamesMissingFunction (g.F.Functions.told c.args.functions.now).count (entry_step (tree_at c.args.arena.now.items) e)) (sym c.in-MapFunction.is) missing))

pub unreachable-requires : goal.unreachable-requires
unreachable-requires g c = none_left_out (tree_at c.args.arena.now.items) c.args.entry.now c.in-LeftOut.field-0 c.in-LeftOut.is c.requires.built

pub unreachable-unreachable : goal.unreachable-unreachable
unreachable-unreachable g c = none_left_out (tree_at c.args.arena.now.items) c.args.entry.now c.in-LeftOut.field-0 c.in-LeftOut.is c.requires.built
