use Rattle.std.proofs.Common.{◌≡◌, ◌+◌, ◌≤◌, drop}
use Rattle.std.specs.List.{AllByRecursion, list_any}
use Rattle.ps_frame.specs.Parts.{is_literal_aggregate, some_part}
use Rattle.ps_frame.specs.Trees.{IsComplete, tree_at}
use Rattle.ps_meaning.specs.PlanTrees.{all_sizes}
use Rattle.ps_meaning.specs.Steps.{exprs_of, named_trees}
use Rattle.ps_validate.proofs.schemas.check_aggregates.Given as goal

abbrev pub invariant-loop-agg : goal.invariant-loop-agg
invariant-loop-agg g l =
    record {
      complete : AllByRecursion IsComplete (exprs_of (named_trees (tree_at l.arena.items) (drop l.agg-index l.aggs)));
      left : list_any (some_part is_literal_aggregate) (exprs_of (named_trees (tree_at l.arena.items) l.aggs)) ≡ list_any (some_part is_literal_aggregate) (exprs_of (named_trees (tree_at l.arena.items) (drop l.agg-index l.aggs)));
      steps : l.steps + all_sizes (exprs_of (named_trees (tree_at l.arena.items) (drop l.agg-index l.aggs))) ≤ l.initial.steps + all_sizes (exprs_of (named_trees (tree_at l.arena.items) l.aggs));
    }
