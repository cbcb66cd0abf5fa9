use Rattle.std.proofs.Common.{◌≡◌, drop}
use Rattle.std.specs.List.{AllByRecursion}
use Rattle.ps_frame.specs.Trees.{IsComplete, tree_at}
use Rattle.lowering_parts.specs.Gathered.{trees_at}
use Rattle.lowering_parts.specs.Operations.{are_own}
use Rattle.expr_lowering.proofs.lower.are_own_columns.Given as goal

abbrev pub invariant-loop-i : goal.invariant-loop-i
invariant-loop-i l =
    record {
      complete : AllByRecursion IsComplete (trees_at (tree_at l.arena.items) (drop l.i l.exprs));
      left : are_own l.names (trees_at (tree_at l.arena.items) l.exprs) ≡ are_own (drop l.i l.names) (trees_at (tree_at l.arena.items) (drop l.i l.exprs));
    }
