use Rattle.std.proofs.Common.{◌≡◌, drop}
use Rattle.std.specs.List.{AllByRecursion, list_all}
use Rattle.ps_frame.specs.Trees.{IsComplete, tree_at}
use Rattle.ps_frame.specs.Typing.{is_elementwise}
use Rattle.ps_fresh.specs.Known.{Remembers}
use Rattle.lowering_parts.specs.Gathered.{trees_at}
use Rattle.node_lowering.proofs.further.are_elementwise.Given as goal

abbrev pub invariant-loop-expr : goal.invariant-loop-expr
invariant-loop-expr l =
    record {
      complete : AllByRecursion IsComplete (trees_at (tree_at l.arena.items) (drop l.expr-index l.exprs));
      left : list_all is_elementwise (trees_at (tree_at l.arena.items) l.exprs) ≡ list_all is_elementwise (trees_at (tree_at l.arena.items) (drop l.expr-index l.exprs));
      cache : Remembers l.arena.items l.low.cache;
      others : l.low ≡ record l.initial.low { cache = l.low.cache };
    }
