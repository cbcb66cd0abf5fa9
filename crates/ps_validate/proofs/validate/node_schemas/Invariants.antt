use Rattle.ps_survey.specs.Flaws.{plan_of}
use Rattle.ps_validate.proofs.Checking.{Checking}
use Rattle.ps_validate.proofs.validate.node_schemas.Given as goal

abbrev pub invariant-loop-node : goal.invariant-loop-node
invariant-loop-node g l = Checking (g.F.Functions.told l.functions) (plan_of l.root l.ir.items l.exprs.items) l.order l.node-index l.schemas l.initial.steps l.steps
