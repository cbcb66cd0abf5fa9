use Rattle.std.proofs.Common.{◌≡◌, drop}
use Rattle.std.specs.List.{AllByRecursion, list_all}
use Rattle.ps_frame.specs.Trees.{IsComplete, tree_at}
use Rattle.ps_fresh.specs.Known.{Remembers}
use Rattle.ps_meaning.specs.Steps.{key_trees}
use Rattle.plan_rules.specs.Reductions.{is_made_of_reductions}
use Rattle.group_lowering.proofs.conditions.are_made_of_reductions.Given as goal

abbrev pub invariant-loop-expr : goal.invariant-loop-expr
invariant-loop-expr l =
    record {
      complete : AllByRecursion IsComplete (key_trees (tree_at l.arena.items) (drop l.expr-index l.exprs));
      left : list_all is_made_of_reductions (key_trees (tree_at l.arena.items) l.exprs) ≡ list_all is_made_of_reductions (key_trees (tree_at l.arena.items) (drop l.expr-index l.exprs));
      cache : Remembers l.arena.items l.cache;
    }
