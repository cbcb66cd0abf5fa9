use Rattle.std.proofs.Common.{◌≡◌, length, take}
use Rattle.std.specs.Prelude.{map}
use Rattle.ps_frame.specs.Trees.{tree_at}
use Rattle.ps_meaning.specs.Schemas.{expr_names}
use Rattle.ps_meaning.specs.Steps.{named_trees}
use Rattle.plain_nodes.specs.Exprs.{expr_shown}
use Rattle.plain_nodes.specs.Reductions.{reduced}
use Rattle.graph_parts.proofs.reductions.Reductions.of_each.Given as goal

abbrev pub invariant-loop-expr : goal.invariant-loop-expr
invariant-loop-expr l =
    record {
      selectors : length l.selectors.items ≡ l.expr-index;
      reductions : length l.reductions.items ≡ l.expr-index;
      shown : reduced (expr_names (named_trees (tree_at l.arena.items) (take l.expr-index l.exprs))) (map expr_shown l.selectors.items) l.reductions.items ≡ named_trees (tree_at l.arena.items) (take l.expr-index l.exprs);
    }
