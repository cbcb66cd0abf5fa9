use Rattle.std.proofs.Common.{◌∙◌, ap}
use Rattle.ps_frame.specs.Trees.{tree_at}
use Rattle.ps_meaning.specs.Steps.{named_trees}
use Rattle.ps_copies.proofs.Copied.{kept-then}
use Rattle.ps_copies.proofs.NamedCopies.{complete-at, more-named}
use Rattle.ps_copies.proofs.maps.copy_named.Goals as goal

pub copy_expr-requires : goal.copy_expr-requires
copy_expr-requires c = complete-at (tree_at c.args.from.now.items) c.args.exprs.now c.loop-expr.expr-index c.expr-item.result c.loop-expr-test.true c.expr-item.is c.requires

pub loop-expr-preserved : goal.loop-expr-preserved
loop-expr-preserved c =
    record {
      named =
          ap (named_trees (tree_at c.copy_expr.new.into.items)) c.in_ok-push.ensures.items
          ∙ more-named (tree_at c.copy_expr.new.into.items) (tree_at c.loop-expr.into.items) c.in_ok-node.ensures.kept (tree_at c.args.from.now.items) c.loop-expr.copies.items c.in_ok-node.node c.in_ok-output_name.output_name c.args.exprs.now c.loop-expr.expr-index c.expr-item.result c.loop-expr-test.true c.expr-item.is c.requires c.loop-expr.invariant.named c.in_ok-node.ensures.tree c.in_ok-output_name.ensures.same;
      kept = kept-then c.args.into.now.items c.loop-expr.into.items c.copy_expr.new.into.items c.loop-expr.invariant.kept c.in_ok-node.ensures.kept;
    }
