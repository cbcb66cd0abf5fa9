use Rattle.std.proofs.Common.{leb, rules}
use Rattle.std.proofs.lemmas.List.Sorted.{IsPartitionPoint-from_clause, IsPartitionedBy-leb}
use Rattle.ps_frame.proofs.Starts.{point-begun, point-last, point-some}
use Rattle.ps_frame.proofs.runs.last_up_to.Goals as goal

pub overflow_sub-result : goal.overflow_sub-result
overflow_sub-result c =
    let parted = IsPartitionedBy-leb (λ y. y) _ c.args.i c.requires.rise in
    let point = IsPartitionPoint-from_clause (λ y. leb y c.args.i) _ _ c.partition_point.ensures.partitioned parted (λ a r q k. search rules) in
    point-some _ _ _ point c.requires.some c.requires.begun

pub returns-clause-begun : goal.returns-clause-begun
returns-clause-begun c =
    let parted = IsPartitionedBy-leb (λ y. y) _ c.args.i c.requires.rise in
    let point = IsPartitionPoint-from_clause (λ y. leb y c.args.i) _ _ c.partition_point.ensures.partitioned parted (λ a r q k. search rules) in
    point-begun _ _ _ point c.requires.some c.requires.begun

pub returns-clause-last : goal.returns-clause-last
returns-clause-last c =
    let parted = IsPartitionedBy-leb (λ y. y) _ c.args.i c.requires.rise in
    let point = IsPartitionPoint-from_clause (λ y. leb y c.args.i) _ _ c.partition_point.ensures.partitioned parted (λ a r q k. search rules) in
    point-last _ _ _ point
