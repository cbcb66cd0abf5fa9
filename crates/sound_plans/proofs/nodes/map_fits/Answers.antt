use Rattle.std.proofs.Common.{[], ◌∷◌, ap, sym, ◌∙◌}
use Rattle.ps_frame.specs.Trees.{tree_at}
use Rattle.ps_meaning.specs.declared.map.MapKind.TheVariants as kind
use Rattle.sound_plans.proofs.Arms.{map-at, map-select-whole, map-sort-whole, map-keys-whole, map-aggregates-whole}
use Rattle.sound_plans.proofs.Fits.{carried}
use Rattle.sound_plans.proofs.nodes.map_fits.Goals as goal

pub returns-in-Function-clause-fit : goal.returns-in-Function-clause-fit
returns-in-Function-clause-fit g c = map-at (tree_at c.args.arena.now.items) (g.F.Functions.told c.args.functions.now) c.args.schema.now (c.args.input.now ∷ []) c.args.map.now (kind.Function c.in-Function.n) (c.in-Function.is) c.function.result c.function.ensures.fit

pub select_whole-requires-clause-selectors : goal.select_whole-requires-clause-selectors
select_whole-requires-clause-selectors g c = map-select-whole (tree_at c.args.arena.now.items) c.args.map.now (c.as_slice.result.now) (c.in-Select.is ∙ ap (λ xs. kind.Select xs) (sym c.as_slice.ensures)) c.requires.complete

pub returns-in-Select-clause-fit : goal.returns-in-Select-clause-fit
returns-in-Select-clause-fit g c = map-at (tree_at c.args.arena.now.items) (g.F.Functions.told c.args.functions.now) c.args.schema.now (c.args.input.now ∷ []) c.args.map.now (kind.Select c.as_slice.result.now) (c.in-Select.is ∙ ap (λ xs. kind.Select xs) (sym c.as_slice.ensures)) c.select_whole.result (carried c.select_whole.result c.select_whole.ensures.fit (λ p. p (g.F.Functions.told c.args.functions.now)))

pub sort-requires-clause-keys : goal.sort-requires-clause-keys
sort-requires-clause-keys g c = map-sort-whole (tree_at c.args.arena.now.items) c.args.map.now (c.as_slice-in-Sort.result.now) (c.in-Sort.slice) (c.in-Sort.sort_options) (c.in-Sort.is ∙ ap (λ xs. kind.Sort xs c.in-Sort.slice c.in-Sort.sort_options) (sym c.as_slice-in-Sort.ensures)) c.requires.complete

pub returns-in-Sort-clause-fit : goal.returns-in-Sort-clause-fit
returns-in-Sort-clause-fit g c = map-at (tree_at c.args.arena.now.items) (g.F.Functions.told c.args.functions.now) c.args.schema.now (c.args.input.now ∷ []) c.args.map.now (kind.Sort c.as_slice-in-Sort.result.now c.in-Sort.slice c.in-Sort.sort_options) (c.in-Sort.is ∙ ap (λ xs. kind.Sort xs c.in-Sort.slice c.in-Sort.sort_options) (sym c.as_slice-in-Sort.ensures)) c.sort.result (carried c.sort.result c.sort.ensures.fit (λ p. p (g.F.Functions.told c.args.functions.now) c.in-Sort.slice))

pub grouped-requires-clause-keys : goal.grouped-requires-clause-keys
grouped-requires-clause-keys g c = map-keys-whole (tree_at c.args.arena.now.items) c.args.map.now (c.as_slice-in-GroupBy.result.now) (c.as_slice-in-GroupBy-2.result.now) (c.in-GroupBy.maintain_order) (c.in-GroupBy.slice) (c.in-GroupBy.is ∙ ap (λ xs. kind.GroupBy xs c.in-GroupBy.aggs c.in-GroupBy.maintain_order c.in-GroupBy.slice) (sym c.as_slice-in-GroupBy.ensures) ∙ ap (λ xs. kind.GroupBy c.as_slice-in-GroupBy.result.now xs c.in-GroupBy.maintain_order c.in-GroupBy.slice) (sym c.as_slice-in-GroupBy-2.ensures)) c.requires.complete

pub grouped-requires-clause-aggregates : goal.grouped-requires-clause-aggregates
grouped-requires-clause-aggregates g c = map-aggregates-whole (tree_at c.args.arena.now.items) c.args.map.now (c.as_slice-in-GroupBy.result.now) (c.as_slice-in-GroupBy-2.result.now) (c.in-GroupBy.maintain_order) (c.in-GroupBy.slice) (c.in-GroupBy.is ∙ ap (λ xs. kind.GroupBy xs c.in-GroupBy.aggs c.in-GroupBy.maintain_order c.in-GroupBy.slice) (sym c.as_slice-in-GroupBy.ensures) ∙ ap (λ xs. kind.GroupBy c.as_slice-in-GroupBy.result.now xs c.in-GroupBy.maintain_order c.in-GroupBy.slice) (sym c.as_slice-in-GroupBy-2.ensures)) c.requires.complete

pub returns-in-GroupBy-clause-fit : goal.returns-in-GroupBy-clause-fit
returns-in-GroupBy-clause-fit g c = map-at (tree_at c.args.arena.now.items) (g.F.Functions.told c.args.functions.now) c.args.schema.now (c.args.input.now ∷ []) c.args.map.now (kind.GroupBy c.as_slice-in-GroupBy.result.now c.as_slice-in-GroupBy-2.result.now c.in-GroupBy.maintain_order c.in-GroupBy.slice) (c.in-GroupBy.is ∙ ap (λ xs. kind.GroupBy xs c.in-GroupBy.aggs c.in-GroupBy.maintain_order c.in-GroupBy.slice) (sym c.as_slice-in-GroupBy.ensures) ∙ ap (λ xs. kind.GroupBy c.as_slice-in-GroupBy.result.now xs c.in-GroupBy.maintain_order c.in-GroupBy.slice) (sym c.as_slice-in-GroupBy-2.ensures)) c.grouped.result (carried c.grouped.result c.grouped.ensures.fit (λ p. p (g.F.Functions.told c.args.functions.now) c.in-GroupBy.maintain_order c.in-GroupBy.slice))

pub returns-in-Distinct-clause-fit : goal.returns-in-Distinct-clause-fit
returns-in-Distinct-clause-fit g c = map-at (tree_at c.args.arena.now.items) (g.F.Functions.told c.args.functions.now) c.args.schema.now (c.args.input.now ∷ []) c.args.map.now (kind.Distinct c.in-Distinct.options) (c.in-Distinct.is) c.distinct.result (carried c.distinct.result c.distinct.ensures.fit (λ p. p (g.F.Functions.told c.args.functions.now)))
