use Rattle.std.proofs.Common.{◌≡◌, take}
use Rattle.ps_frame.specs.Trees.{tree_at}
use Rattle.ps_meaning.specs.Steps.{named_trees}
use Rattle.ps_copies.specs.Copies.{KeepsTrees}
use Rattle.ps_copies.proofs.maps.copy_named.Given as goal

abbrev pub invariant-loop-expr : goal.invariant-loop-expr
invariant-loop-expr l =
    record {
      named : named_trees (tree_at l.into.items) l.copies.items ≡ named_trees (tree_at l.from.items) (take l.expr-index l.exprs);
      kept : KeepsTrees l.initial.into.items l.into.items;
    }
