-- A slice in order is parted by each value.
use Rattle.std.proofs.Common.{rules}
use Rattle.std.specs.Ordering.{is_le}
use Rattle.std.proofs.lemmas.List.Sorted.{IsPartitionPoint-from_clause, searchable_from_sorted}
use Rattle.pu_index.proofs.Searches.{le_parted}
use Rattle.pu_index.proofs.search.find_first_gt_index.Goals as goal

pub returns-clause-first : goal.returns-clause-first
returns-clause-first g c =
    let xs = c.args.arr.now in
    let rising = searchable_from_sorted g.met.T.Ord.total (λ y. y) xs c.args.val c.requires in
    IsPartitionPoint-from_clause (λ y. is_le (g.T.Ord.cmp y c.args.val)) xs _ c.partition_point.ensures.partitioned (le_parted (λ y. g.T.Ord.cmp y c.args.val) xs rising) (λ a r f' k. search rules)
