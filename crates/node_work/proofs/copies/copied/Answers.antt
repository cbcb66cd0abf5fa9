-- One expression more is copied.
use Rattle.std.proofs.Common.{◌∙◌, ap}
use Rattle.node_work.proofs.Copied.{more_named, more_whole}
use Rattle.ps_frame.specs.Trees.{tree_at}
use Rattle.ps_meaning.specs.Steps.{named_trees}
use Rattle.node_work.proofs.copies.copied.Goals as goal

pub loop-expr-preserved : goal.loop-expr-preserved
loop-expr-preserved c =
    record {
      named =
          ap (named_trees (tree_at c.copy_into.new.into.items)) c.in_ok-push.ensures.items
          ∙ more_named (tree_at c.copy_into.new.into.items) (tree_at c.loop-expr.into.items) c.in-Ok.ensures.kept c.loop-expr.copies.items c.in-Ok.copy c.args.exprs.now c.loop-expr.expr-index c.expr-item.result c.loop-expr-test.true c.expr-item.is c.in-Ok.ensures.name c.in-Ok.ensures.tree c.loop-expr.invariant.named c.loop-expr.invariant.whole;
      whole = more_whole c.args.exprs.now c.loop-expr.expr-index c.expr-item.result c.loop-expr-test.true c.expr-item.is c.in-Ok.ensures.complete c.loop-expr.invariant.whole;
    }
