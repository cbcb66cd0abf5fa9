use Rattle.std.proofs.Common.{◌∙◌, ap, refl, sym}
use Rattle.std.specs.Prelude.{Bool}
use Rattle.ps_frame.specs.Trees.{tree_at}
use Rattle.ps_meaning.specs.Steps.{cache, group_step, sink}
use Rattle.ps_plan.specs.declared.ir.IR.TheVariants as entry
use Rattle.ps_node_eval.proofs.Entries.{faults-all, faults-any, faults-as, gives-all, gives-any, gives-as, many-as, none-left-out, ready-as, ready-for}
use Rattle.ps_node_eval.proofs.entry.evaluate_entry.Goals as goal

pub scanned-requires-clause-ready : goal.scanned-requires-clause-ready
scanned-requires-clause-ready g c =
    ready-as (g.F.Functions.told c.args.functions.now) (tree_at c.args.exprs.now.items) c.args.entry.now (entry.DataFrameScan c.in-DataFrameScan.df c.in-DataFrameScan.projection) c.args.inputs.now (c.in-DataFrameScan.is) c.args.schema.now c.requires.ready

pub scanned-requires-clause-inputs : goal.scanned-requires-clause-inputs
scanned-requires-clause-inputs g c =
    many-as (g.F.Functions.told c.args.functions.now) (tree_at c.args.exprs.now.items) c.args.entry.now (entry.DataFrameScan c.in-DataFrameScan.df c.in-DataFrameScan.projection) c.args.inputs.now (c.in-DataFrameScan.is) c.requires.inputs

pub returns-in-DataFrameScan-clause-table : goal.returns-in-DataFrameScan-clause-table
returns-in-DataFrameScan-clause-table g c =
    gives-all (g.F.Functions.told c.args.functions.now) (tree_at c.args.exprs.now.items) c.args.entry.now (entry.DataFrameScan c.in-DataFrameScan.df c.in-DataFrameScan.projection) c.args.inputs.now (c.in-DataFrameScan.is) c.args.at.0 c.scanned.result c.scanned.ensures.table

pub returns-in-DataFrameScan-clause-fault : goal.returns-in-DataFrameScan-clause-fault
returns-in-DataFrameScan-clause-fault g c =
    faults-all (g.F.Functions.told c.args.functions.now) (tree_at c.args.exprs.now.items) c.args.entry.now (entry.DataFrameScan c.in-DataFrameScan.df c.in-DataFrameScan.projection) c.args.inputs.now (c.in-DataFrameScan.is) c.args.at.0 c.scanned.result c.scanned.ensures.fault

pub projected-requires-clause-ready : goal.projected-requires-clause-ready
projected-requires-clause-ready g c =
    ready-as (g.F.Functions.told c.args.functions.now) (tree_at c.args.exprs.now.items) c.args.entry.now (entry.SimpleProjection c.in-SimpleProjection.input c.as_slice.result.now) c.args.inputs.now (c.in-SimpleProjection.is ∙ ap (entry.SimpleProjection c.in-SimpleProjection.input) (sym c.as_slice.ensures)) c.args.schema.now c.requires.ready

pub projected-requires-clause-inputs : goal.projected-requires-clause-inputs
projected-requires-clause-inputs g c =
    many-as (g.F.Functions.told c.args.functions.now) (tree_at c.args.exprs.now.items) c.args.entry.now (entry.SimpleProjection c.in-SimpleProjection.input c.as_slice.result.now) c.args.inputs.now (c.in-SimpleProjection.is ∙ ap (entry.SimpleProjection c.in-SimpleProjection.input) (sym c.as_slice.ensures)) c.requires.inputs

pub returns-in-SimpleProjection-clause-table : goal.returns-in-SimpleProjection-clause-table
returns-in-SimpleProjection-clause-table g c =
    gives-all (g.F.Functions.told c.args.functions.now) (tree_at c.args.exprs.now.items) c.args.entry.now (entry.SimpleProjection c.in-SimpleProjection.input c.as_slice.result.now) c.args.inputs.now (c.in-SimpleProjection.is ∙ ap (entry.SimpleProjection c.in-SimpleProjection.input) (sym c.as_slice.ensures)) c.args.at.0 c.projected.result c.projected.ensures.table

pub returns-in-SimpleProjection-clause-fault : goal.returns-in-SimpleProjection-clause-fault
returns-in-SimpleProjection-clause-fault g c =
    faults-all (g.F.Functions.told c.args.functions.now) (tree_at c.args.exprs.now.items) c.args.entry.now (entry.SimpleProjection c.in-SimpleProjection.input c.as_slice.result.now) c.args.inputs.now (c.in-SimpleProjection.is ∙ ap (entry.SimpleProjection c.in-SimpleProjection.input) (sym c.as_slice.ensures)) c.args.at.0 c.projected.result c.projected.ensures.fault

pub selected-requires-clause-ready : goal.selected-requires-clause-ready
selected-requires-clause-ready g c =
    ready-as (g.F.Functions.told c.args.functions.now) (tree_at c.args.exprs.now.items) c.args.entry.now (entry.Select c.in-Select.input c.as_slice-in-Select.result.now) c.args.inputs.now (c.in-Select.is ∙ ap (entry.Select c.in-Select.input) (sym c.as_slice-in-Select.ensures)) c.args.schema.now c.requires.ready

pub selected-requires-clause-inputs : goal.selected-requires-clause-inputs
selected-requires-clause-inputs g c =
    many-as (g.F.Functions.told c.args.functions.now) (tree_at c.args.exprs.now.items) c.args.entry.now (entry.Select c.in-Select.input c.as_slice-in-Select.result.now) c.args.inputs.now (c.in-Select.is ∙ ap (entry.Select c.in-Select.input) (sym c.as_slice-in-Select.ensures)) c.requires.inputs

pub returns-in-Select-clause-table : goal.returns-in-Select-clause-table
returns-in-Select-clause-table g c =
    gives-all (g.F.Functions.told c.args.functions.now) (tree_at c.args.exprs.now.items) c.args.entry.now (entry.Select c.in-Select.input c.as_slice-in-Select.result.now) c.args.inputs.now (c.in-Select.is ∙ ap (entry.Select c.in-Select.input) (sym c.as_slice-in-Select.ensures)) c.args.at.0 c.selected.result c.selected.ensures.table

pub returns-in-Select-clause-fault : goal.returns-in-Select-clause-fault
returns-in-Select-clause-fault g c =
    faults-all (g.F.Functions.told c.args.functions.now) (tree_at c.args.exprs.now.items) c.args.entry.now (entry.Select c.in-Select.input c.as_slice-in-Select.result.now) c.args.inputs.now (c.in-Select.is ∙ ap (entry.Select c.in-Select.input) (sym c.as_slice-in-Select.ensures)) c.args.at.0 c.selected.result c.selected.ensures.fault

pub stacked-requires-clause-ready : goal.stacked-requires-clause-ready
stacked-requires-clause-ready g c =
    ready-as (g.F.Functions.told c.args.functions.now) (tree_at c.args.exprs.now.items) c.args.entry.now (entry.HStack c.in-HStack.input c.as_slice-in-HStack.result.now) c.args.inputs.now (c.in-HStack.is ∙ ap (entry.HStack c.in-HStack.input) (sym c.as_slice-in-HStack.ensures)) c.args.schema.now c.requires.ready

pub stacked-requires-clause-inputs : goal.stacked-requires-clause-inputs
stacked-requires-clause-inputs g c =
    many-as (g.F.Functions.told c.args.functions.now) (tree_at c.args.exprs.now.items) c.args.entry.now (entry.HStack c.in-HStack.input c.as_slice-in-HStack.result.now) c.args.inputs.now (c.in-HStack.is ∙ ap (entry.HStack c.in-HStack.input) (sym c.as_slice-in-HStack.ensures)) c.requires.inputs

pub returns-in-HStack-clause-table : goal.returns-in-HStack-clause-table
returns-in-HStack-clause-table g c =
    gives-all (g.F.Functions.told c.args.functions.now) (tree_at c.args.exprs.now.items) c.args.entry.now (entry.HStack c.in-HStack.input c.as_slice-in-HStack.result.now) c.args.inputs.now (c.in-HStack.is ∙ ap (entry.HStack c.in-HStack.input) (sym c.as_slice-in-HStack.ensures)) c.args.at.0 c.stacked.result c.stacked.ensures.table

pub returns-in-HStack-clause-fault : goal.returns-in-HStack-clause-fault
returns-in-HStack-clause-fault g c =
    faults-all (g.F.Functions.told c.args.functions.now) (tree_at c.args.exprs.now.items) c.args.entry.now (entry.HStack c.in-HStack.input c.as_slice-in-HStack.result.now) c.args.inputs.now (c.in-HStack.is ∙ ap (entry.HStack c.in-HStack.input) (sym c.as_slice-in-HStack.ensures)) c.args.at.0 c.stacked.result c.stacked.ensures.fault

pub filtered-requires-clause-ready : goal.filtered-requires-clause-ready
filtered-requires-clause-ready g c =
    (c.args.schema.now, ready-as (g.F.Functions.told c.args.functions.now) (tree_at c.args.exprs.now.items) c.args.entry.now (entry.Filter c.in-Filter.input c.in-Filter.predicate) c.args.inputs.now (c.in-Filter.is) c.args.schema.now c.requires.ready)

pub filtered-requires-clause-inputs : goal.filtered-requires-clause-inputs
filtered-requires-clause-inputs g c =
    many-as (g.F.Functions.told c.args.functions.now) (tree_at c.args.exprs.now.items) c.args.entry.now (entry.Filter c.in-Filter.input c.in-Filter.predicate) c.args.inputs.now (c.in-Filter.is) c.requires.inputs

pub returns-in-Filter-clause-table : goal.returns-in-Filter-clause-table
returns-in-Filter-clause-table g c =
    gives-all (g.F.Functions.told c.args.functions.now) (tree_at c.args.exprs.now.items) c.args.entry.now (entry.Filter c.in-Filter.input c.in-Filter.predicate) c.args.inputs.now (c.in-Filter.is) c.args.at.0 c.filtered.result c.filtered.ensures.table

pub returns-in-Filter-clause-fault : goal.returns-in-Filter-clause-fault
returns-in-Filter-clause-fault g c =
    faults-all (g.F.Functions.told c.args.functions.now) (tree_at c.args.exprs.now.items) c.args.entry.now (entry.Filter c.in-Filter.input c.in-Filter.predicate) c.args.inputs.now (c.in-Filter.is) c.args.at.0 c.filtered.result c.filtered.ensures.fault

pub sliced-requires : goal.sliced-requires
sliced-requires g c =
    many-as (g.F.Functions.told c.args.functions.now) (tree_at c.args.exprs.now.items) c.args.entry.now (entry.Slice c.in-Slice.input c.in-Slice.offset c.in-Slice.len) c.args.inputs.now (c.in-Slice.is) c.requires.inputs

pub returns-in-Slice-clause-table : goal.returns-in-Slice-clause-table
returns-in-Slice-clause-table g c =
    gives-all (g.F.Functions.told c.args.functions.now) (tree_at c.args.exprs.now.items) c.args.entry.now (entry.Slice c.in-Slice.input c.in-Slice.offset c.in-Slice.len) c.args.inputs.now (c.in-Slice.is) c.args.at.0 c.sliced.result c.sliced.ensures.table

pub returns-in-Slice-clause-fault : goal.returns-in-Slice-clause-fault
returns-in-Slice-clause-fault g c =
    faults-all (g.F.Functions.told c.args.functions.now) (tree_at c.args.exprs.now.items) c.args.entry.now (entry.Slice c.in-Slice.input c.in-Slice.offset c.in-Slice.len) c.args.inputs.now (c.in-Slice.is) c.args.at.0 c.sliced.result c.sliced.ensures.fault

pub passed-requires : goal.passed-requires
passed-requires g c =
    many-as (g.F.Functions.told c.args.functions.now) (tree_at c.args.exprs.now.items) c.args.entry.now (entry.Sink c.in-Sink.input c.in-Sink.payload) c.args.inputs.now (c.in-Sink.is) c.requires.inputs

pub returns-in-Sink-clause-table : goal.returns-in-Sink-clause-table
returns-in-Sink-clause-table g c =
    gives-any (g.F.Functions.told c.args.functions.now) (tree_at c.args.exprs.now.items) c.args.entry.now (entry.Sink c.in-Sink.input c.in-Sink.payload) c.args.inputs.now (c.in-Sink.is) c.in-Sink.payload sink c.args.at.0 c.passed.result refl c.passed.ensures.sink

pub returns-in-Sink-clause-fault : goal.returns-in-Sink-clause-fault
returns-in-Sink-clause-fault g c =
    faults-any (g.F.Functions.told c.args.functions.now) (tree_at c.args.exprs.now.items) c.args.entry.now (entry.Sink c.in-Sink.input c.in-Sink.payload) c.args.inputs.now (c.in-Sink.is) c.in-Sink.payload sink c.args.at.0 c.passed.result refl c.passed.ensures.sink_fault

pub mapped-requires-clause-ready : goal.mapped-requires-clause-ready
mapped-requires-clause-ready g c =
    λ κs within. ready-for (g.F.Functions.told c.args.functions.now) (tree_at c.args.exprs.now.items) c.args.entry.now (entry.MapFunction c.in-MapFunction.input c.in-MapFunction.function) c.args.inputs.now (c.in-MapFunction.is) c.args.schema.now c.requires.ready

pub mapped-requires-clause-inputs : goal.mapped-requires-clause-inputs
mapped-requires-clause-inputs g c =
    λ κs within. many-as (g.F.Functions.told c.args.functions.now) (tree_at c.args.exprs.now.items) c.args.entry.now (entry.MapFunction c.in-MapFunction.input c.in-MapFunction.function) c.args.inputs.now (c.in-MapFunction.is) c.requires.inputs

pub returns-in-MapFunction-clause-table : goal.returns-in-MapFunction-clause-table
returns-in-MapFunction-clause-table g c =
    gives-as (g.F.Functions.told c.args.functions.now) (tree_at c.args.exprs.now.items) c.args.entry.now (entry.MapFunction c.in-MapFunction.input c.in-MapFunction.function) c.args.inputs.now (c.in-MapFunction.is) c.args.at.0 c.mapped.result c.mapped.ensures.table

pub returns-in-MapFunction-clause-fault : goal.returns-in-MapFunction-clause-fault
returns-in-MapFunction-clause-fault g c =
    faults-as (g.F.Functions.told c.args.functions.now) (tree_at c.args.exprs.now.items) c.args.entry.now (entry.MapFunction c.in-MapFunction.input c.in-MapFunction.function) c.args.inputs.now (c.in-MapFunction.is) c.args.at.0 c.mapped.result c.mapped.ensures.fault

pub sorted-requires-clause-ready : goal.sorted-requires-clause-ready
sorted-requires-clause-ready g c =
    (c.args.schema.now, ready-as (g.F.Functions.told c.args.functions.now) (tree_at c.args.exprs.now.items) c.args.entry.now (entry.Sort c.in-Sort.input c.as_slice-in-Sort.result.now c.in-Sort.slice c.in-Sort.sort_options) c.args.inputs.now (c.in-Sort.is ∙ ap (λ es. entry.Sort c.in-Sort.input es c.in-Sort.slice c.in-Sort.sort_options) (sym c.as_slice-in-Sort.ensures)) c.args.schema.now c.requires.ready)

pub sorted-requires-clause-inputs : goal.sorted-requires-clause-inputs
sorted-requires-clause-inputs g c =
    many-as (g.F.Functions.told c.args.functions.now) (tree_at c.args.exprs.now.items) c.args.entry.now (entry.Sort c.in-Sort.input c.as_slice-in-Sort.result.now c.in-Sort.slice c.in-Sort.sort_options) c.args.inputs.now (c.in-Sort.is ∙ ap (λ es. entry.Sort c.in-Sort.input es c.in-Sort.slice c.in-Sort.sort_options) (sym c.as_slice-in-Sort.ensures)) c.requires.inputs

pub returns-in-Sort-clause-table : goal.returns-in-Sort-clause-table
returns-in-Sort-clause-table g c =
    gives-all (g.F.Functions.told c.args.functions.now) (tree_at c.args.exprs.now.items) c.args.entry.now (entry.Sort c.in-Sort.input c.as_slice-in-Sort.result.now c.in-Sort.slice c.in-Sort.sort_options) c.args.inputs.now (c.in-Sort.is ∙ ap (λ es. entry.Sort c.in-Sort.input es c.in-Sort.slice c.in-Sort.sort_options) (sym c.as_slice-in-Sort.ensures)) c.args.at.0 c.sorted.result c.sorted.ensures.table

pub returns-in-Sort-clause-fault : goal.returns-in-Sort-clause-fault
returns-in-Sort-clause-fault g c =
    faults-all (g.F.Functions.told c.args.functions.now) (tree_at c.args.exprs.now.items) c.args.entry.now (entry.Sort c.in-Sort.input c.as_slice-in-Sort.result.now c.in-Sort.slice c.in-Sort.sort_options) c.args.inputs.now (c.in-Sort.is ∙ ap (λ es. entry.Sort c.in-Sort.input es c.in-Sort.slice c.in-Sort.sort_options) (sym c.as_slice-in-Sort.ensures)) c.args.at.0 c.sorted.result c.sorted.ensures.fault

pub united-requires : goal.united-requires
united-requires g c =
    ready-as (g.F.Functions.told c.args.functions.now) (tree_at c.args.exprs.now.items) c.args.entry.now (entry.Union c.in-Union.inputs c.in-Union.options) c.args.inputs.now (c.in-Union.is) c.args.schema.now c.requires.ready

pub returns-in-Union-clause-table : goal.returns-in-Union-clause-table
returns-in-Union-clause-table g c =
    gives-all (g.F.Functions.told c.args.functions.now) (tree_at c.args.exprs.now.items) c.args.entry.now (entry.Union c.in-Union.inputs c.in-Union.options) c.args.inputs.now (c.in-Union.is) c.args.at.0 c.united.result c.united.ensures.table

pub returns-in-Union-clause-fault : goal.returns-in-Union-clause-fault
returns-in-Union-clause-fault g c =
    faults-all (g.F.Functions.told c.args.functions.now) (tree_at c.args.exprs.now.items) c.args.entry.now (entry.Union c.in-Union.inputs c.in-Union.options) c.args.inputs.now (c.in-Union.is) c.args.at.0 c.united.result c.united.ensures.fault

pub side_by_side-requires : goal.side_by_side-requires
side_by_side-requires g c =
    ready-as (g.F.Functions.told c.args.functions.now) (tree_at c.args.exprs.now.items) c.args.entry.now (entry.HConcat c.in-HConcat.inputs) c.args.inputs.now (c.in-HConcat.is) c.args.schema.now c.requires.ready

pub returns-in-HConcat-clause-table : goal.returns-in-HConcat-clause-table
returns-in-HConcat-clause-table g c =
    gives-all (g.F.Functions.told c.args.functions.now) (tree_at c.args.exprs.now.items) c.args.entry.now (entry.HConcat c.in-HConcat.inputs) c.args.inputs.now (c.in-HConcat.is) c.args.at.0 c.side_by_side.result c.side_by_side.ensures.table

pub returns-in-HConcat-clause-fault : goal.returns-in-HConcat-clause-fault
returns-in-HConcat-clause-fault g c =
    faults-all (g.F.Functions.told c.args.functions.now) (tree_at c.args.exprs.now.items) c.args.entry.now (entry.HConcat c.in-HConcat.inputs) c.args.inputs.now (c.in-HConcat.is) c.args.at.0 c.side_by_side.result c.side_by_side.ensures.fault

pub passed-requires-in-Cache : goal.passed-requires-in-Cache
passed-requires-in-Cache g c =
    many-as (g.F.Functions.told c.args.functions.now) (tree_at c.args.exprs.now.items) c.args.entry.now (entry.Cache c.in-Cache.input c.in-Cache.id c.in-Cache.cache_hits) c.args.inputs.now (c.in-Cache.is) c.requires.inputs

pub returns-in-Cache-clause-table : goal.returns-in-Cache-clause-table
returns-in-Cache-clause-table g c =
    gives-any (g.F.Functions.told c.args.functions.now) (tree_at c.args.exprs.now.items) c.args.entry.now (entry.Cache c.in-Cache.input c.in-Cache.id c.in-Cache.cache_hits) c.args.inputs.now (c.in-Cache.is) c.in-Cache.id cache c.args.at.0 c.passed-in-Cache.result refl c.passed-in-Cache.ensures.cache

pub returns-in-Cache-clause-fault : goal.returns-in-Cache-clause-fault
returns-in-Cache-clause-fault g c =
    faults-any (g.F.Functions.told c.args.functions.now) (tree_at c.args.exprs.now.items) c.args.entry.now (entry.Cache c.in-Cache.input c.in-Cache.id c.in-Cache.cache_hits) c.args.inputs.now (c.in-Cache.is) c.in-Cache.id cache c.args.at.0 c.passed-in-Cache.result refl c.passed-in-Cache.ensures.cache_fault

pub grouped-requires-clause-ready : goal.grouped-requires-clause-ready
grouped-requires-clause-ready g c =
    (c.in-GroupBy.maintain_order, ready-as (g.F.Functions.told c.args.functions.now) (tree_at c.args.exprs.now.items) c.args.entry.now (entry.GroupBy c.in-GroupBy.input c.as_slice-in-GroupBy.result.now c.as_slice-in-GroupBy-2.result.now c.in-GroupBy.maintain_order c.in-GroupBy.options) c.args.inputs.now (c.in-GroupBy.is ∙ ap (λ es. entry.GroupBy c.in-GroupBy.input es c.in-GroupBy.aggs c.in-GroupBy.maintain_order c.in-GroupBy.options) (sym c.as_slice-in-GroupBy.ensures) ∙ ap (λ es. entry.GroupBy c.in-GroupBy.input c.as_slice-in-GroupBy.result.now es c.in-GroupBy.maintain_order c.in-GroupBy.options) (sym c.as_slice-in-GroupBy-2.ensures)) c.args.schema.now c.requires.ready)

pub grouped-requires-clause-inputs : goal.grouped-requires-clause-inputs
grouped-requires-clause-inputs g c =
    many-as (g.F.Functions.told c.args.functions.now) (tree_at c.args.exprs.now.items) c.args.entry.now (entry.GroupBy c.in-GroupBy.input c.as_slice-in-GroupBy.result.now c.as_slice-in-GroupBy-2.result.now c.in-GroupBy.maintain_order c.in-GroupBy.options) c.args.inputs.now (c.in-GroupBy.is ∙ ap (λ es. entry.GroupBy c.in-GroupBy.input es c.in-GroupBy.aggs c.in-GroupBy.maintain_order c.in-GroupBy.options) (sym c.as_slice-in-GroupBy.ensures) ∙ ap (λ es. entry.GroupBy c.in-GroupBy.input c.as_slice-in-GroupBy.result.now es c.in-GroupBy.maintain_order c.in-GroupBy.options) (sym c.as_slice-in-GroupBy-2.ensures)) c.requires.inputs

pub returns-in-GroupBy-clause-table : goal.returns-in-GroupBy-clause-table
returns-in-GroupBy-clause-table g c =
    gives-any (g.F.Functions.told c.args.functions.now) (tree_at c.args.exprs.now.items) c.args.entry.now (entry.GroupBy c.in-GroupBy.input c.as_slice-in-GroupBy.result.now c.as_slice-in-GroupBy-2.result.now c.in-GroupBy.maintain_order c.in-GroupBy.options) c.args.inputs.now (c.in-GroupBy.is ∙ ap (λ es. entry.GroupBy c.in-GroupBy.input es c.in-GroupBy.aggs c.in-GroupBy.maintain_order c.in-GroupBy.options) (sym c.as_slice-in-GroupBy.ensures) ∙ ap (λ es. entry.GroupBy c.in-GroupBy.input c.as_slice-in-GroupBy.result.now es c.in-GroupBy.maintain_order c.in-GroupBy.options) (sym c.as_slice-in-GroupBy-2.ensures)) c.in-GroupBy.maintain_order (λ (maintained : Bool). group_step (tree_at c.args.exprs.now.items) c.as_slice-in-GroupBy.result.now c.as_slice-in-GroupBy-2.result.now maintained c.in-GroupBy.options.slice) c.args.at.0 c.grouped.result refl c.grouped.ensures.table

pub returns-in-GroupBy-clause-fault : goal.returns-in-GroupBy-clause-fault
returns-in-GroupBy-clause-fault g c =
    faults-any (g.F.Functions.told c.args.functions.now) (tree_at c.args.exprs.now.items) c.args.entry.now (entry.GroupBy c.in-GroupBy.input c.as_slice-in-GroupBy.result.now c.as_slice-in-GroupBy-2.result.now c.in-GroupBy.maintain_order c.in-GroupBy.options) c.args.inputs.now (c.in-GroupBy.is ∙ ap (λ es. entry.GroupBy c.in-GroupBy.input es c.in-GroupBy.aggs c.in-GroupBy.maintain_order c.in-GroupBy.options) (sym c.as_slice-in-GroupBy.ensures) ∙ ap (λ es. entry.GroupBy c.in-GroupBy.input c.as_slice-in-GroupBy.result.now es c.in-GroupBy.maintain_order c.in-GroupBy.options) (sym c.as_slice-in-GroupBy-2.ensures)) c.in-GroupBy.maintain_order (λ (maintained : Bool). group_step (tree_at c.args.exprs.now.items) c.as_slice-in-GroupBy.result.now c.as_slice-in-GroupBy-2.result.now maintained c.in-GroupBy.options.slice) c.args.at.0 c.grouped.result refl c.grouped.ensures.fault

pub joined-requires-clause-ready : goal.joined-requires-clause-ready
joined-requires-clause-ready g c =
    ready-as (g.F.Functions.told c.args.functions.now) (tree_at c.args.exprs.now.items) c.args.entry.now (entry.Join c.in-Join.input_left c.in-Join.input_right c.as_slice-in-Join.result.now c.as_slice-in-Join-2.result.now c.in-Join.options) c.args.inputs.now (c.in-Join.is ∙ ap (λ es. entry.Join c.in-Join.input_left c.in-Join.input_right es c.in-Join.right_on c.in-Join.options) (sym c.as_slice-in-Join.ensures) ∙ ap (λ es. entry.Join c.in-Join.input_left c.in-Join.input_right c.as_slice-in-Join.result.now es c.in-Join.options) (sym c.as_slice-in-Join-2.ensures)) c.args.schema.now c.requires.ready

pub joined-requires-clause-inputs : goal.joined-requires-clause-inputs
joined-requires-clause-inputs g c =
    many-as (g.F.Functions.told c.args.functions.now) (tree_at c.args.exprs.now.items) c.args.entry.now (entry.Join c.in-Join.input_left c.in-Join.input_right c.as_slice-in-Join.result.now c.as_slice-in-Join-2.result.now c.in-Join.options) c.args.inputs.now (c.in-Join.is ∙ ap (λ es. entry.Join c.in-Join.input_left c.in-Join.input_right es c.in-Join.right_on c.in-Join.options) (sym c.as_slice-in-Join.ensures) ∙ ap (λ es. entry.Join c.in-Join.input_left c.in-Join.input_right c.as_slice-in-Join.result.now es c.in-Join.options) (sym c.as_slice-in-Join-2.ensures)) c.requires.inputs

pub returns-in-Join-clause-table : goal.returns-in-Join-clause-table
returns-in-Join-clause-table g c =
    gives-all (g.F.Functions.told c.args.functions.now) (tree_at c.args.exprs.now.items) c.args.entry.now (entry.Join c.in-Join.input_left c.in-Join.input_right c.as_slice-in-Join.result.now c.as_slice-in-Join-2.result.now c.in-Join.options) c.args.inputs.now (c.in-Join.is ∙ ap (λ es. entry.Join c.in-Join.input_left c.in-Join.input_right es c.in-Join.right_on c.in-Join.options) (sym c.as_slice-in-Join.ensures) ∙ ap (λ es. entry.Join c.in-Join.input_left c.in-Join.input_right c.as_slice-in-Join.result.now es c.in-Join.options) (sym c.as_slice-in-Join-2.ensures)) c.args.at.0 c.joined.result c.joined.ensures.table

pub returns-in-Join-clause-fault : goal.returns-in-Join-clause-fault
returns-in-Join-clause-fault g c =
    faults-all (g.F.Functions.told c.args.functions.now) (tree_at c.args.exprs.now.items) c.args.entry.now (entry.Join c.in-Join.input_left c.in-Join.input_right c.as_slice-in-Join.result.now c.as_slice-in-Join-2.result.now c.in-Join.options) c.args.inputs.now (c.in-Join.is ∙ ap (λ es. entry.Join c.in-Join.input_left c.in-Join.input_right es c.in-Join.right_on c.in-Join.options) (sym c.as_slice-in-Join.ensures) ∙ ap (λ es. entry.Join c.in-Join.input_left c.in-Join.input_right c.as_slice-in-Join.result.now es c.in-Join.options) (sym c.as_slice-in-Join-2.ensures)) c.args.at.0 c.joined.result c.joined.ensures.fault

pub deduplicated-requires-clause-ready : goal.deduplicated-requires-clause-ready
deduplicated-requires-clause-ready g c =
    (c.args.schema.now, ready-as (g.F.Functions.told c.args.functions.now) (tree_at c.args.exprs.now.items) c.args.entry.now (entry.Distinct c.in-Distinct.input c.in-Distinct.options) c.args.inputs.now (c.in-Distinct.is) c.args.schema.now c.requires.ready)

pub deduplicated-requires-clause-inputs : goal.deduplicated-requires-clause-inputs
deduplicated-requires-clause-inputs g c =
    many-as (g.F.Functions.told c.args.functions.now) (tree_at c.args.exprs.now.items) c.args.entry.now (entry.Distinct c.in-Distinct.input c.in-Distinct.options) c.args.inputs.now (c.in-Distinct.is) c.requires.inputs

pub returns-in-Distinct-clause-table : goal.returns-in-Distinct-clause-table
returns-in-Distinct-clause-table g c =
    gives-all (g.F.Functions.told c.args.functions.now) (tree_at c.args.exprs.now.items) c.args.entry.now (entry.Distinct c.in-Distinct.input c.in-Distinct.options) c.args.inputs.now (c.in-Distinct.is) c.args.at.0 c.deduplicated.result c.deduplicated.ensures.table

pub returns-in-Distinct-clause-fault : goal.returns-in-Distinct-clause-fault
returns-in-Distinct-clause-fault g c =
    faults-all (g.F.Functions.told c.args.functions.now) (tree_at c.args.exprs.now.items) c.args.entry.now (entry.Distinct c.in-Distinct.input c.in-Distinct.options) c.args.inputs.now (c.in-Distinct.is) c.args.at.0 c.deduplicated.result c.deduplicated.ensures.fault

pub unreachable-requires : goal.unreachable-requires
unreachable-requires g c =
    none-left-out (g.F.Functions.told c.args.functions.now) (tree_at c.args.exprs.now.items) c.args.entry.now c.in-LeftOut.field-0 c.args.inputs.now c.args.schema.now c.in-LeftOut.is c.requires.ready

pub unreachable-unreachable : goal.unreachable-unreachable
unreachable-unreachable g c =
    none-left-out (g.F.Functions.told c.args.functions.now) (tree_at c.args.exprs.now.items) c.args.entry.now c.in-LeftOut.field-0 c.args.inputs.now c.args.schema.now c.in-LeftOut.is c.requires.ready
