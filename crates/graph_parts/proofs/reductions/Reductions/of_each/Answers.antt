use Rattle.std.proofs.Common.{length, refl}
use Rattle.std.proofs.lemmas.Option.{slice_get_read}
use Rattle.ps_frame.specs.Trees.{IsComplete, tree_at}
use Rattle.ps_meaning.specs.Sound.{IsReduction}
use Rattle.graph_parts.proofs.Steps.{item_counted, reduced_all, reduced_step, tree_at_place}
use Rattle.graph_parts.proofs.reductions.Reductions.of_each.Goals as goal

pub taken_apart-reduced-requires-clause-complete : goal.taken_apart-reduced-requires-clause-complete
taken_apart-reduced-requires-clause-complete c =
    tree_at_place IsComplete (tree_at c.args.arena.now.items) c.args.exprs.now c.loop-expr.expr-index c.expr-item.result
    (slice_get_read c.args.exprs.now (length c.args.exprs.now) c.loop-expr.expr-index c.expr-item.result refl c.loop-expr-test.true c.expr-item.is) c.requires.complete

pub taken_apart-reduced-requires-clause-reduction : goal.taken_apart-reduced-requires-clause-reduction
taken_apart-reduced-requires-clause-reduction c =
    tree_at_place IsReduction (tree_at c.args.arena.now.items) c.args.exprs.now c.loop-expr.expr-index c.expr-item.result
    (slice_get_read c.args.exprs.now (length c.args.exprs.now) c.loop-expr.expr-index c.expr-item.result refl c.loop-expr-test.true c.expr-item.is) c.requires.reductions

pub loop-expr-preserved : goal.loop-expr-preserved
loop-expr-preserved c =
    let f = tree_at c.args.arena.now.items in
    record {
      selectors = item_counted c.loop-expr.selectors.items c.push.new.self.items c.in_ok-selector.selector c.loop-expr.expr-index c.loop-expr.invariant.selectors c.in_ok-push.ensures.items;
      reductions = item_counted c.loop-expr.reductions.items c.push-in-loop-expr.new.self.items c.taken_apart-reduced.result.reduction c.loop-expr.expr-index c.loop-expr.invariant.reductions c.in_ok-push-2.ensures.items;
      shown =
          reduced_step f c.args.exprs.now c.loop-expr.expr-index c.expr-item.result c.loop-expr.selectors.items c.push.new.self.items c.loop-expr.reductions.items c.push-in-loop-expr.new.self.items c.in_ok-selector.selector c.taken_apart-reduced.result.reduction c.taken_apart-reduced.result.operand
          (slice_get_read c.args.exprs.now (length c.args.exprs.now) c.loop-expr.expr-index c.expr-item.result refl c.loop-expr-test.true c.expr-item.is) c.loop-expr.invariant.selectors c.loop-expr.invariant.reductions c.loop-expr.invariant.shown
          c.in_ok-push.ensures.items c.in_ok-push-2.ensures.items c.in_ok-selector.ensures.shown c.taken_apart-reduced.ensures.tree;
    }

pub returns-clause-shown : goal.returns-clause-shown
returns-clause-shown c = reduced_all (tree_at c.args.arena.now.items) c.args.exprs.now c.loop-expr.expr-index c.loop-expr.selectors.items c.loop-expr.reductions.items c.loop-expr-test.false c.loop-expr.invariant.shown
