use Rattle.ps_frame.specs.Trees.{tree_at}
use Rattle.ps_copies.proofs.NamedCopies.{group-aggs, group-copied, group-keys, select-keys, sort-copied}
use Rattle.ps_copies.proofs.maps.copy_map.Goals as goal

pub copy_named-requires : goal.copy_named-requires
copy_named-requires c = select-keys (tree_at c.args.from.now.items) c.args.kind.now c.requires c.in-Select.exprs c.as_slice.result.now c.in-Select.is c.as_slice.ensures

pub copy_named-requires-in-GroupBy : goal.copy_named-requires-in-GroupBy
copy_named-requires-in-GroupBy c =
    group-keys (tree_at c.args.from.now.items) c.args.kind.now c.requires c.in-GroupBy.keys c.in-GroupBy.aggs c.in-GroupBy.maintain_order c.in-GroupBy.slice c.in-GroupBy.is c.as_slice-in-GroupBy.result.now c.as_slice-in-GroupBy.ensures

pub copy_named-requires-in-GroupBy-2 : goal.copy_named-requires-in-GroupBy-2
copy_named-requires-in-GroupBy-2 c =
    group-aggs (tree_at c.args.from.now.items) c.args.kind.now c.requires c.in-GroupBy.keys c.in-GroupBy.aggs c.in-GroupBy.maintain_order c.in-GroupBy.slice c.in-GroupBy.is c.as_slice-in-GroupBy-2.result.now c.as_slice-in-GroupBy-2.ensures

pub returns-in_ok-sort_options-in-Sort-clause-step : goal.returns-in_ok-sort_options-in-Sort-clause-step
returns-in_ok-sort_options-in-Sort-clause-step c =
    sort-copied (tree_at c.copy_named-in-Sort.new.into.items) (tree_at c.args.from.now.items) c.args.kind.now c.in_ok-by_column-in-Sort.by_column c.in-Sort.by_column c.as_slice-in-Sort.result.now c.in-Sort.slice c.in_ok-sort_options-in-Sort.sort_options c.in-Sort.sort_options c.in-Sort.is c.as_slice-in-Sort.ensures c.in_ok-sort_options-in-Sort.ensures.same c.in_ok-by_column-in-Sort.ensures.named

pub returns-in_ok-aggs-in-GroupBy-clause-step : goal.returns-in_ok-aggs-in-GroupBy-clause-step
returns-in_ok-aggs-in-GroupBy-clause-step c =
    group-copied (tree_at c.copy_named-in-GroupBy-2.new.into.items) (tree_at c.copy_named-in-GroupBy.new.into.items) c.in_ok-aggs-in-GroupBy.ensures.kept (tree_at c.args.from.now.items) c.args.kind.now c.in_ok-keys-in-GroupBy.keys c.in_ok-aggs-in-GroupBy.aggs c.in-GroupBy.keys c.in-GroupBy.aggs c.as_slice-in-GroupBy.result.now c.as_slice-in-GroupBy-2.result.now c.in-GroupBy.maintain_order c.in-GroupBy.slice c.in-GroupBy.is c.as_slice-in-GroupBy.ensures c.as_slice-in-GroupBy-2.ensures
    (group-keys (tree_at c.args.from.now.items) c.args.kind.now c.requires c.in-GroupBy.keys c.in-GroupBy.aggs c.in-GroupBy.maintain_order c.in-GroupBy.slice c.in-GroupBy.is c.as_slice-in-GroupBy.result.now c.as_slice-in-GroupBy.ensures)
    c.in_ok-keys-in-GroupBy.ensures.named c.in_ok-aggs-in-GroupBy.ensures.named
