use Rattle.ps_frame.specs.Trees.{tree_at}
use Rattle.ps_groups.proofs.Reducing.{reduces-column}
use Rattle.ps_groups.proofs.reductions.column_reduction.Goals as goal

pub returns-in-Some-clause-reduces : goal.returns-in-Some-clause-reduces
returns-in-Some-clause-reduces c =
    reduces-column (tree_at c.args.arena.now.items) c.args.aggregate c.args.schema.now c.in-Some.place c.aggregated.result c.reduction_at.result c.aggregated.ensures c.in-Some.ensures.within c.in-Some.ensures.column c.reduction_at.ensures.reduces
