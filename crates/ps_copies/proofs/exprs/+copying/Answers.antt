use Rattle.std.proofs.Common.{arith, ◌∙◌, ap}
use Rattle.std.proofs.lemmas.Grind.{common_steps}
use Rattle.ps_frame.specs.Trees.{tree_at, trees_of}
use Rattle.ps_copies.proofs.Copied.{kept-then, more-copied, trees-carried}
use Rattle.ps_copies.proofs.exprs.+copying.Goals as goal

pub copy_keyed-returns-clause-keys : goal.copy_keyed-returns-clause-keys
copy_keyed-returns-clause-keys t c =
    trees-carried (tree_at c.copy_expr.new.into.items) (tree_at c.copy_all.new.into.items) c.in_ok-copy.ensures.kept c.in_ok-keys.keys (trees_of (tree_at c.args.from.now.items) c.args.by.now) c.in_ok-keys.ensures.trees c.requires.keys

pub copy_all-loop-expr-preserved : goal.copy_all-loop-expr-preserved
copy_all-loop-expr-preserved t c =
    record {
      complete = grind (arith, common_steps);
      small = grind (arith, common_steps);
      trees =
          ap (trees_of (tree_at c.copy_expr.new.into.items)) c.in_ok-push.ensures.items
          ∙ more-copied (tree_at c.copy_expr.new.into.items) (tree_at c.loop-expr.into.items) (tree_at c.args.from.now.items) c.loop-expr.copies.items c.in_ok-copy_expr.field-0 c.args.exprs.now c.loop-expr.expr-index c.loop-expr-test.true c.requires c.in_ok-copy_expr.ensures.kept c.loop-expr.invariant.trees c.in_ok-copy_expr.ensures.tree;
      kept = kept-then c.args.into.now.items c.loop-expr.into.items c.copy_expr.new.into.items c.loop-expr.invariant.kept c.in_ok-copy_expr.ensures.kept;
    }
