use Rattle.std.proofs.Common.{length, subst}
use Rattle.ps_plan.specs.Graph.{inputs_at}
use Rattle.ps_survey.specs.Flaws.{memory}
use Rattle.ps_survey.specs.Search.{HasStopped}
use Rattle.ps_survey.proofs.FlawLemmas.{node-circle, node-missing}
use Rattle.ps_survey.proofs.orders.stopped.Goals as goal

pub returns-in-Missing : goal.returns-in-Missing
returns-in-Missing c = λ plan h. node-missing plan c.misshapen.result c.in-Missing.node c.misshapen.ensures (subst (HasStopped (inputs_at plan) (length plan.nodes) plan.root.0) c.in-Missing.is h)

pub returns-in-Circle : goal.returns-in-Circle
returns-in-Circle c = λ plan h. node-circle plan c.misshapen-in-Circle.result c.in-Circle.node c.misshapen-in-Circle.ensures (subst (HasStopped (inputs_at plan) (length plan.nodes) plan.root.0) c.in-Circle.is h)

pub returns-in-OutOfMemory : goal.returns-in-OutOfMemory
returns-in-OutOfMemory c = λ plan h. memory
