use Rattle.std.proofs.Common.{take}
use Rattle.ps_frame.specs.Trees.{tree_at}
use Rattle.ps_meaning.specs.Steps.{named_trees}
use Rattle.plan_rules.specs.Reductions.{split_aggregates}
use Rattle.group_lowering.specs.Groups.{IsSplit}
use Rattle.group_lowering.proofs.apart.split_all.Given as goal

abbrev pub invariant-loop-aggregate : goal.invariant-loop-aggregate
invariant-loop-aggregate l = IsSplit (split_aggregates (named_trees (tree_at l.initial.arena.items) (take l.aggregate-index l.aggs))) l.initial.arena.items l.arena.items l.initial.low l.low l.reductions.items l.above.items
