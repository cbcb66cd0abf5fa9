use Rattle.std.proofs.Common.{[], ◌∷◌, ap, sym, ◌∙◌}
use Rattle.ps_frame.specs.Trees.{tree_at}
use Rattle.ps_meaning.specs.Shape.{in_memory_sink, multiplexer, streaming_slice}
use Rattle.ps_phys.specs.declared.phys.PhysNodeKind.TheVariants as phys
use Rattle.sound_plans.proofs.Arms.{aggregates-whole, filter-whole, fits-at, keys-whole, map-whole, reduce-whole, select-whole, sort-whole}
use Rattle.sound_plans.proofs.Fits.{carried}
use Rattle.sound_plans.proofs.nodes.over_one.Goals as goal

pub select-requires-clause-selectors : goal.select-requires-clause-selectors
select-requires-clause-selectors g c = select-whole (tree_at c.args.arena.now.items) c.args.kind.now c.requires.complete (c.in-Select.input) (c.as_slice.result.now) (c.in-Select.extend_original) (c.in-Select.is ∙ ap (λ xs. phys.Select c.in-Select.input xs c.in-Select.extend_original) (sym c.as_slice.ensures))

pub returns-in-Select-clause-fit : goal.returns-in-Select-clause-fit
returns-in-Select-clause-fit g c = fits-at (tree_at c.args.arena.now.items) (g.F.Functions.told c.args.functions.now) c.args.schema.now (c.args.input.now ∷ []) c.args.kind.now (phys.Select c.in-Select.input c.as_slice.result.now c.in-Select.extend_original) (c.in-Select.is ∙ ap (λ xs. phys.Select c.in-Select.input xs c.in-Select.extend_original) (sym c.as_slice.ensures)) c.select.result (carried c.select.result c.select.ensures.fit (λ p. p (g.F.Functions.told c.args.functions.now)))

pub returns-in-WithRowIndex-clause-fit : goal.returns-in-WithRowIndex-clause-fit
returns-in-WithRowIndex-clause-fit g c = fits-at (tree_at c.args.arena.now.items) (g.F.Functions.told c.args.functions.now) c.args.schema.now (c.args.input.now ∷ []) c.args.kind.now (phys.WithRowIndex c.in-WithRowIndex.input c.in-WithRowIndex.name c.in-WithRowIndex.offset) (c.in-WithRowIndex.is) c.row_index.result (carried c.row_index.result c.row_index.ensures.fit (λ p. p (g.F.Functions.told c.args.functions.now) c.in-WithRowIndex.offset))

pub reduce-requires-clause-selectors : goal.reduce-requires-clause-selectors
reduce-requires-clause-selectors g c = reduce-whole (tree_at c.args.arena.now.items) c.args.kind.now c.requires.complete (c.in-Reduce.input) (c.as_slice-in-Reduce.result.now) (c.in-Reduce.is ∙ ap (λ xs. phys.Reduce c.in-Reduce.input xs) (sym c.as_slice-in-Reduce.ensures))

pub returns-in-Reduce-clause-fit : goal.returns-in-Reduce-clause-fit
returns-in-Reduce-clause-fit g c = fits-at (tree_at c.args.arena.now.items) (g.F.Functions.told c.args.functions.now) c.args.schema.now (c.args.input.now ∷ []) c.args.kind.now (phys.Reduce c.in-Reduce.input c.as_slice-in-Reduce.result.now) (c.in-Reduce.is ∙ ap (λ xs. phys.Reduce c.in-Reduce.input xs) (sym c.as_slice-in-Reduce.ensures)) c.reduce.result (carried c.reduce.result c.reduce.ensures.fit (λ p. p (g.F.Functions.told c.args.functions.now)))

pub returns-in-StreamingSlice-clause-fit : goal.returns-in-StreamingSlice-clause-fit
returns-in-StreamingSlice-clause-fit g c = fits-at (tree_at c.args.arena.now.items) (g.F.Functions.told c.args.functions.now) c.args.schema.now (c.args.input.now ∷ []) c.args.kind.now (phys.StreamingSlice c.in-StreamingSlice.input c.in-StreamingSlice.offset c.in-StreamingSlice.length) (c.in-StreamingSlice.is) c.passing.result (carried c.passing.result c.passing.ensures.fit (λ p. p (g.F.Functions.told c.args.functions.now) (streaming_slice c.in-StreamingSlice.offset c.in-StreamingSlice.length) tt))

pub returns-in-NegativeSlice-clause-fit : goal.returns-in-NegativeSlice-clause-fit
returns-in-NegativeSlice-clause-fit g c = fits-at (tree_at c.args.arena.now.items) (g.F.Functions.told c.args.functions.now) c.args.schema.now (c.args.input.now ∷ []) c.args.kind.now (phys.NegativeSlice c.in-NegativeSlice.input c.in-NegativeSlice.offset c.in-NegativeSlice.length) (c.in-NegativeSlice.is) c.negative_slice.result (carried c.negative_slice.result c.negative_slice.ensures.fit (λ p. p (g.F.Functions.told c.args.functions.now) c.in-NegativeSlice.length))

pub filter-requires-clause-predicate : goal.filter-requires-clause-predicate
filter-requires-clause-predicate g c = filter-whole (tree_at c.args.arena.now.items) c.args.kind.now c.requires.complete (c.in-Filter.input) (c.in-Filter.predicate) (c.in-Filter.is)

pub returns-in-Filter-clause-fit : goal.returns-in-Filter-clause-fit
returns-in-Filter-clause-fit g c = fits-at (tree_at c.args.arena.now.items) (g.F.Functions.told c.args.functions.now) c.args.schema.now (c.args.input.now ∷ []) c.args.kind.now (phys.Filter c.in-Filter.input c.in-Filter.predicate) (c.in-Filter.is) c.filter.result (carried c.filter.result c.filter.ensures.fit (λ p. p (g.F.Functions.told c.args.functions.now)))

pub returns-in-SimpleProjection-clause-fit : goal.returns-in-SimpleProjection-clause-fit
returns-in-SimpleProjection-clause-fit g c = fits-at (tree_at c.args.arena.now.items) (g.F.Functions.told c.args.functions.now) c.args.schema.now (c.args.input.now ∷ []) c.args.kind.now (phys.SimpleProjection c.in-SimpleProjection.input c.as_slice-in-SimpleProjection.result.now) (c.in-SimpleProjection.is ∙ ap (λ xs. phys.SimpleProjection c.in-SimpleProjection.input xs) (sym c.as_slice-in-SimpleProjection.ensures)) c.projection.result (carried c.projection.result c.projection.ensures.fit (λ p. p (g.F.Functions.told c.args.functions.now)))

pub returns-in-InMemorySink-clause-fit : goal.returns-in-InMemorySink-clause-fit
returns-in-InMemorySink-clause-fit g c = fits-at (tree_at c.args.arena.now.items) (g.F.Functions.told c.args.functions.now) c.args.schema.now (c.args.input.now ∷ []) c.args.kind.now (phys.InMemorySink c.in-InMemorySink.input) (c.in-InMemorySink.is) c.passing-in-InMemorySink.result (carried c.passing-in-InMemorySink.result c.passing-in-InMemorySink.ensures.fit (λ p. p (g.F.Functions.told c.args.functions.now) in_memory_sink tt))

pub map_fits-requires-clause-complete : goal.map_fits-requires-clause-complete
map_fits-requires-clause-complete g c = λ κs lives. map-whole (tree_at c.args.arena.now.items) c.args.kind.now c.requires.complete (c.in-InMemoryMap.input) (c.in-InMemoryMap.map) (c.in-InMemoryMap.is)

pub returns-in-InMemoryMap-clause-fit : goal.returns-in-InMemoryMap-clause-fit
returns-in-InMemoryMap-clause-fit g c = fits-at (tree_at c.args.arena.now.items) (g.F.Functions.told c.args.functions.now) c.args.schema.now (c.args.input.now ∷ []) c.args.kind.now (phys.InMemoryMap c.in-InMemoryMap.input c.in-InMemoryMap.map) (c.in-InMemoryMap.is) c.map_fits.result c.map_fits.ensures.fit

pub returns-in-Map-clause-fit : goal.returns-in-Map-clause-fit
returns-in-Map-clause-fit g c = fits-at (tree_at c.args.arena.now.items) (g.F.Functions.told c.args.functions.now) c.args.schema.now (c.args.input.now ∷ []) c.args.kind.now (phys.Map c.in-Map.input c.in-Map.map) (c.in-Map.is) c.stream_fits.result (carried c.stream_fits.result c.stream_fits.ensures.fit (λ p. p (tree_at c.args.arena.now.items)))

pub sort-requires-clause-keys : goal.sort-requires-clause-keys
sort-requires-clause-keys g c = sort-whole (tree_at c.args.arena.now.items) c.args.kind.now c.requires.complete (c.in-Sort.input) (c.as_slice-in-Sort.result.now) (c.in-Sort.slice) (c.in-Sort.sort_options) (c.in-Sort.is ∙ ap (λ xs. phys.Sort c.in-Sort.input xs c.in-Sort.slice c.in-Sort.sort_options) (sym c.as_slice-in-Sort.ensures))

pub returns-in-Sort-clause-fit : goal.returns-in-Sort-clause-fit
returns-in-Sort-clause-fit g c = fits-at (tree_at c.args.arena.now.items) (g.F.Functions.told c.args.functions.now) c.args.schema.now (c.args.input.now ∷ []) c.args.kind.now (phys.Sort c.in-Sort.input c.as_slice-in-Sort.result.now c.in-Sort.slice c.in-Sort.sort_options) (c.in-Sort.is ∙ ap (λ xs. phys.Sort c.in-Sort.input xs c.in-Sort.slice c.in-Sort.sort_options) (sym c.as_slice-in-Sort.ensures)) c.sort.result (carried c.sort.result c.sort.ensures.fit (λ p. p (g.F.Functions.told c.args.functions.now) c.in-Sort.slice))

pub returns-in-Multiplexer-clause-fit : goal.returns-in-Multiplexer-clause-fit
returns-in-Multiplexer-clause-fit g c = fits-at (tree_at c.args.arena.now.items) (g.F.Functions.told c.args.functions.now) c.args.schema.now (c.args.input.now ∷ []) c.args.kind.now (phys.Multiplexer c.in-Multiplexer.input) (c.in-Multiplexer.is) c.passing-in-Multiplexer.result (carried c.passing-in-Multiplexer.result c.passing-in-Multiplexer.ensures.fit (λ p. p (g.F.Functions.told c.args.functions.now) multiplexer tt))

pub group_by-requires-clause-keys : goal.group_by-requires-clause-keys
group_by-requires-clause-keys g c = keys-whole (tree_at c.args.arena.now.items) c.args.kind.now c.requires.complete (c.in-GroupBy.input) (c.as_slice-in-GroupBy.result.now) (c.as_slice-in-GroupBy-2.result.now) (c.in-GroupBy.is ∙ ap (λ xs. phys.GroupBy c.in-GroupBy.input xs c.in-GroupBy.aggs) (sym c.as_slice-in-GroupBy.ensures) ∙ ap (λ xs. phys.GroupBy c.in-GroupBy.input c.as_slice-in-GroupBy.result.now xs) (sym c.as_slice-in-GroupBy-2.ensures))

pub group_by-requires-clause-aggregates : goal.group_by-requires-clause-aggregates
group_by-requires-clause-aggregates g c = aggregates-whole (tree_at c.args.arena.now.items) c.args.kind.now c.requires.complete (c.in-GroupBy.input) (c.as_slice-in-GroupBy.result.now) (c.as_slice-in-GroupBy-2.result.now) (c.in-GroupBy.is ∙ ap (λ xs. phys.GroupBy c.in-GroupBy.input xs c.in-GroupBy.aggs) (sym c.as_slice-in-GroupBy.ensures) ∙ ap (λ xs. phys.GroupBy c.in-GroupBy.input c.as_slice-in-GroupBy.result.now xs) (sym c.as_slice-in-GroupBy-2.ensures))

pub returns-in-GroupBy-clause-fit : goal.returns-in-GroupBy-clause-fit
returns-in-GroupBy-clause-fit g c = fits-at (tree_at c.args.arena.now.items) (g.F.Functions.told c.args.functions.now) c.args.schema.now (c.args.input.now ∷ []) c.args.kind.now (phys.GroupBy c.in-GroupBy.input c.as_slice-in-GroupBy.result.now c.as_slice-in-GroupBy-2.result.now) (c.in-GroupBy.is ∙ ap (λ xs. phys.GroupBy c.in-GroupBy.input xs c.in-GroupBy.aggs) (sym c.as_slice-in-GroupBy.ensures) ∙ ap (λ xs. phys.GroupBy c.in-GroupBy.input c.as_slice-in-GroupBy.result.now xs) (sym c.as_slice-in-GroupBy-2.ensures)) c.group_by.result (carried c.group_by.result c.group_by.ensures.fit (λ p. p (g.F.Functions.told c.args.functions.now)))
