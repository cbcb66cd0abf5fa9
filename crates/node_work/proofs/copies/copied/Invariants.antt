use Rattle.std.proofs.Common.{◌≡◌, map, take}
use Rattle.node_work.proofs.Copied.{AreWhole}
use Rattle.plain_nodes.specs.Exprs.{expr_shown}
use Rattle.ps_frame.specs.Trees.{tree_at}
use Rattle.ps_meaning.specs.Steps.{named_trees}
use Rattle.node_work.proofs.copies.copied.Given as goal

abbrev pub invariant-loop-expr : goal.invariant-loop-expr
invariant-loop-expr l =
    record {
      named : named_trees (tree_at l.into.items) l.copies.items ≡ map expr_shown (take l.expr-index l.exprs);
      whole : AreWhole (map expr_shown (take l.expr-index l.exprs));
    }
