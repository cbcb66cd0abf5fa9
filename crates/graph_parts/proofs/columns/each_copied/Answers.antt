use Rattle.std.proofs.Common.{length, refl}
use Rattle.std.proofs.lemmas.Option.{slice_get_read}
use Rattle.ps_frame.specs.Trees.{IsComplete, tree_at}
use Rattle.ps_meaning.specs.Steps.{name_in}
use Rattle.ps_meaning.specs.declared.options.ExprIR.{ExprIR}
use Rattle.plain_nodes.specs.Exprs.{expr_shown}
use Rattle.graph_parts.proofs.Steps.{shown_all, shown_more, tree_at_place}
use Rattle.graph_parts.proofs.columns.each_copied.Goals as goal

pub new-requires : goal.new-requires
new-requires c =
    tree_at_place IsComplete (tree_at c.args.arena.now.items) c.args.exprs.now c.loop-expr.expr-index c.expr-item.result
    (slice_get_read c.args.exprs.now (length c.args.exprs.now) c.loop-expr.expr-index c.expr-item.result refl c.loop-expr-test.true c.expr-item.is) c.requires

pub loop-expr-preserved : goal.loop-expr-preserved
loop-expr-preserved c =
    let f = tree_at c.args.arena.now.items in
    shown_more expr_shown (λ (e : ExprIR). (name_in e.output_name, f e.node)) c.args.exprs.now c.loop-expr.expr-index c.expr-item.result c.loop-expr.copies.items c.push.new.self.items c.in_ok-copy.copy
    (slice_get_read c.args.exprs.now (length c.args.exprs.now) c.loop-expr.expr-index c.expr-item.result refl c.loop-expr-test.true c.expr-item.is) c.loop-expr.invariant c.in_ok-push.ensures.items c.in_ok-copy.ensures.same

pub returns-clause-shown : goal.returns-clause-shown
returns-clause-shown c =
    let f = tree_at c.args.arena.now.items in
    shown_all expr_shown (λ (e : ExprIR). (name_in e.output_name, f e.node)) c.args.exprs.now c.loop-expr.expr-index c.loop-expr.copies.items c.loop-expr-test.false c.loop-expr.invariant
