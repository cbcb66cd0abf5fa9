use Rattle.std.proofs.Common.{sym, arith}
use Rattle.std.proofs.lemmas.Option.{slice_get_within}
use Rattle.ps_survey.specs.Orders.{exprs_in, operands_in}
use Rattle.ps_survey.proofs.Lists.{from-at, length-from_none}
use Rattle.ps_survey.proofs.Visits.{visited-all, visited-more}
use Rattle.ps_survey.proofs.orders.visit_exprs.Goals as goal

pub loop-expr-preserved : goal.loop-expr-preserved
loop-expr-preserved g c =
    let starts = exprs_in c.args.nodes.now.items c.args.node in
    let at = sym c.in-Some.ensures.name in
    let i = c.loop-expr.invariant in
    let e = c.in-Ok.ensures in
    let l = slice_get_within starts c.loop-expr.place c.in-Some.expr at in
    let t = c.tick.ensures in
    let s = e.steps in
    let was = i.looks in
    record {
      size = e.size;
      trail = e.trail;
      within = omega (arith, l);
      visited = visited-more (operands_in c.args.exprs.now.items) starts c.args.search.now.order.items c.loop-expr.search.order.items c.visit_expr.new.search.order.items c.loop-expr.search.marks.items c.visit_expr.new.search.marks.items c.loop-expr.place
          c.in-Some.expr at i.visited e.done;
      looks = omega (arith, t, s, was);
    }

pub returns-in-Err-clause-flaw : goal.returns-in-Err-clause-flaw
returns-in-Err-clause-flaw g c = λ root reached.
    c.in-Err.ensures.flaw root c.args.nodes.now.items reached (from-at (exprs_in c.args.nodes.now.items c.args.node) c.loop-expr.place c.in-Some.expr (sym c.in-Some.ensures.name))

pub returns-in-Err-clause-steps : goal.returns-in-Err-clause-steps
returns-in-Err-clause-steps g c =
    let l = slice_get_within (exprs_in c.args.nodes.now.items c.args.node) c.loop-expr.place c.in-Some.expr (sym c.in-Some.ensures.name) in
    let t = c.tick.ensures in
    let s = c.in-Err.ensures.steps in
    let was = c.loop-expr.invariant.looks in
    omega (arith, l, t, s, was)

pub returns-clause-done : goal.returns-clause-done
returns-clause-done g c =
    let starts = exprs_in c.args.nodes.now.items c.args.node in
    visited-all (operands_in c.args.exprs.now.items) starts c.args.search.now.order.items c.loop-expr.search.order.items c.loop-expr.search.marks.items c.loop-expr.place
    (length-from_none starts c.loop-expr.place (sym c.in_default.ensures.name)) c.loop-expr.invariant.visited
