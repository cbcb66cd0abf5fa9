use Rattle.std.proofs.Common.{length, subst}
use Rattle.ps_plan.specs.Graph.{operands_at}
use Rattle.ps_survey.specs.Flaws.{memory}
use Rattle.ps_survey.specs.Search.{HasStopped}
use Rattle.ps_survey.proofs.FlawLemmas.{expr-circle, expr-gone}
use Rattle.ps_survey.proofs.orders.stopped_below.Goals as goal

pub returns-in-Missing : goal.returns-in-Missing
returns-in-Missing c = λ plan expr reached own h.
    expr-gone plan c.misshapen.result c.args.node expr c.misshapen.ensures reached own _ (subst (HasStopped (operands_at plan) (length plan.exprs) expr) c.in-Missing.is h)

pub returns-in-Circle : goal.returns-in-Circle
returns-in-Circle c = λ plan expr reached own h.
    expr-circle plan c.misshapen-in-Circle.result c.args.node expr c.misshapen-in-Circle.ensures reached own _ (subst (HasStopped (operands_at plan) (length plan.exprs) expr) c.in-Circle.is h)

pub returns-in-OutOfMemory : goal.returns-in-OutOfMemory
returns-in-OutOfMemory c = λ plan expr reached own h. memory
