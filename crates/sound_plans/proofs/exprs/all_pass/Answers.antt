use Rattle.std.proofs.Common.{length, refl, sym, ◌∙◌}
use Rattle.std.proofs.lemmas.Option.{slice_get_read}
use Rattle.ps_frame.specs.Trees.{IsComplete, tree_at}
use Rattle.sound_plans.proofs.Testing.{pass-end, pass-next, pass-stop, tree-at}
use Rattle.sound_plans.specs.Tested.{passes}
use Rattle.sound_plans.proofs.exprs.all_pass.Goals as goal

pub passes-requires-clause-expr : goal.passes-requires-clause-expr
passes-requires-clause-expr c =
    tree-at IsComplete (tree_at c.args.arena.now.items) c.args.exprs.now c.loop-expr.expr-index c.expr-item.result
    (slice_get_read c.args.exprs.now (length c.args.exprs.now) c.loop-expr.expr-index c.expr-item.result refl c.loop-expr-test.true c.expr-item.is) c.requires.exprs

pub returns-then-not-pass-clause-pass : goal.returns-then-not-pass-clause-pass
returns-then-not-pass-clause-pass c =
    sym (pass-stop (passes c.args.test) (tree_at c.args.arena.now.items) c.args.exprs.now c.loop-expr.expr-index c.expr-item.result
    (slice_get_read c.args.exprs.now (length c.args.exprs.now) c.loop-expr.expr-index c.expr-item.result refl c.loop-expr-test.true c.expr-item.is) c.loop-expr.invariant.left (sym c.in_ok-pass.ensures.is ∙ c.if-not-pass.true))

pub loop-expr-preserved : goal.loop-expr-preserved
loop-expr-preserved c =
    record {
      left =
          pass-next (passes c.args.test) (tree_at c.args.arena.now.items) c.args.exprs.now c.loop-expr.expr-index c.expr-item.result
          (slice_get_read c.args.exprs.now (length c.args.exprs.now) c.loop-expr.expr-index c.expr-item.result refl c.loop-expr-test.true c.expr-item.is) c.loop-expr.invariant.left (sym c.in_ok-pass.ensures.is ∙ c.if-not-pass.false);
      cache = c.passes.ensures.cache;
    }

pub returns-clause-pass : goal.returns-clause-pass
returns-clause-pass c = sym (pass-end (passes c.args.test) (tree_at c.args.arena.now.items) c.args.exprs.now c.loop-expr.expr-index c.loop-expr-test.false c.loop-expr.invariant.left)
