use Rattle.std.proofs.Common.{arith}
use Rattle.ps_survey.specs.Flaws.{plan_of}
use Rattle.ps_survey.proofs.FlawLemmas.{no-expr}
use Rattle.ps_survey.proofs.orders.visit_expr.Goals as goal

pub returns-then-expr-len-clause-flaw : goal.returns-then-expr-len-clause-flaw
returns-then-expr-len-clause-flaw g c = λ root nodes reached own.
    let t = c.if-expr-len.true in
    let n = c.len.ensures in
    no-expr (plan_of root nodes c.args.exprs.now.items) c.misshapen.result c.args.node c.args.expr c.misshapen.ensures reached own (omega (arith, t, n))

pub returns-in-Err-clause-flaw : goal.returns-in-Err-clause-flaw
returns-in-Err-clause-flaw g c = λ root nodes reached own. c.stopped_below.ensures (plan_of root nodes c.args.exprs.now.items) c.args.expr reached own c.in-Err.ensures.found
