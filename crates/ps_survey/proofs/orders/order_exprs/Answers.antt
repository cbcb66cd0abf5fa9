use Rattle.std.proofs.Common.{length, ap, subst, sym, ◌∙◌, arith}
use Rattle.std.proofs.lemmas.List.{length-replicate}
use Rattle.ps_plan.specs.Graph.{operands}
use Rattle.ps_survey.specs.Flaws.{memory, plan_of}
use Rattle.ps_survey.specs.Orders.{IsExprOrder, exprs_in, operands_in}
use Rattle.ps_survey.specs.declared.search.Mark.TheVariants as mark
use Rattle.ps_survey.proofs.Fresh.{fresh-is, looks-fresh}
use Rattle.ps_survey.proofs.Visits.{among, expr-order, looks-all, looks-more, looks-within, named-more, none-named, none-own, own-more}
use Rattle.ps_survey.proofs.orders.order_exprs.Goals as goal

pub returns-in-Err-clause-exprs : goal.returns-in-Err-clause-exprs
returns-in-Err-clause-exprs g c = λ root reached. memory

pub loop-node-init : goal.loop-node-init
loop-node-init g c =
    let e = c.in-Ok.ensures in
    let n = c.len.ensures in
    let size = ap (λ ms. length ms) e.marks ∙ length-replicate c.len.result mark.New ∙ n in
    let looks = looks-fresh operands c.args.exprs.now.items c.len.result c.in-Ok.search.marks.items e.marks n in
    record {
      size = size;
      trail = e.trail;
      rest = fresh-is (operands_in c.args.exprs.now.items) c.len.result c.in-Ok.search.order.items c.in-Ok.search.marks.items e.order e.marks;
      named = none-named c.args.nodes.now.items c.args.exprs.now.items c.in-Ok.search.order.items e.order;
      own = none-own c.args.nodes.now.items c.args.exprs.now.items c.in-Ok.search.order.items;
      looks = omega (arith, looks);
    }

pub visit_exprs-requires-clause-node : goal.visit_exprs-requires-clause-node
visit_exprs-requires-clause-node g c = c.requires _ (among c.args.order.now c.loop-node.node-index c.loop-node-test.true)

pub returns-in-Err-visit_exprs-clause-exprs : goal.returns-in-Err-visit_exprs-clause-exprs
returns-in-Err-visit_exprs-clause-exprs g c = λ root reached. c.in-Err-visit_exprs.ensures.flaw root (reached _ (among c.args.order.now c.loop-node.node-index c.loop-node-test.true))

pub returns-in-Err-visit_exprs-clause-steps : goal.returns-in-Err-visit_exprs-clause-steps
returns-in-Err-visit_exprs-clause-steps g c =
    let a = looks-within (exprs_in c.args.nodes.now.items) c.args.order.now c.loop-node.node-index c.loop-node-test.true in
    let t = c.tick.ensures in
    let s = c.in-Err-visit_exprs.ensures.steps in
    let was = c.loop-node.invariant.looks in
    omega (arith, a, t, s, was)

pub loop-node-preserved : goal.loop-node-preserved
loop-node-preserved g c =
    let i = c.loop-node.invariant in
    let e = c.in-Ok-visit_exprs.ensures in
    let h = c.loop-node-test.true in
    let before = c.loop-node.search.order.items in
    let after = c.visit_exprs.new.search.order.items in
    let marks = c.visit_exprs.new.search.marks.items in
    let a = looks-more (exprs_in c.args.nodes.now.items) c.args.order.now c.loop-node.node-index h in
    let t = c.tick.ensures in
    let s = e.steps in
    let was = i.looks in
    record {
      size = e.size;
      trail = e.trail;
      rest = e.done.rest;
      named = named-more c.args.nodes.now.items c.args.exprs.now.items c.args.order.now c.loop-node.node-index h before after marks e.done i.named;
      own = own-more c.args.nodes.now.items c.args.exprs.now.items c.args.order.now c.loop-node.node-index h before after marks e.done i.own;
      looks = omega (arith, a, t, s, was);
    }

pub returns-clause-exprs : goal.returns-clause-exprs
returns-clause-exprs g c = λ root reached.
    let i = c.loop-node.invariant in
    let nodes = c.args.nodes.now.items in
    let exprs = c.args.exprs.now.items in
    let order = c.args.order.now in
    subst (λ es. IsExprOrder (plan_of root nodes exprs) order es) (sym c.into_order.ensures)
    (expr-order nodes exprs root order c.loop-node.search.order.items c.loop-node.search.marks.items c.loop-node.node-index c.loop-node-test.false i.size i.rest i.named i.own)

pub returns-clause-steps : goal.returns-clause-steps
returns-clause-steps g c =
    let a = looks-all (exprs_in c.args.nodes.now.items) c.args.order.now c.loop-node.node-index in
    let was = c.loop-node.invariant.looks in
    omega (arith, a, was)
