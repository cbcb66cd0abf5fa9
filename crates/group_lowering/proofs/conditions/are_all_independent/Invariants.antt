use Rattle.std.proofs.Common.{◌≡◌, drop}
use Rattle.std.specs.List.{AllByRecursion}
use Rattle.ps_frame.specs.Trees.{IsComplete, tree_at}
use Rattle.ps_fresh.specs.Known.{Remembers}
use Rattle.ps_meaning.specs.Steps.{key_trees}
use Rattle.ps_rules.specs.Calls.{all_independent}
use Rattle.group_lowering.proofs.conditions.are_all_independent.Given as goal

abbrev pub invariant-loop-expr : goal.invariant-loop-expr
invariant-loop-expr l =
    record {
      complete : AllByRecursion IsComplete (key_trees (tree_at l.arena.items) (drop l.expr-index l.exprs));
      left : all_independent (key_trees (tree_at l.arena.items) l.exprs) ≡ all_independent (key_trees (tree_at l.arena.items) (drop l.expr-index l.exprs));
      cache : Remembers l.arena.items l.cache;
    }
