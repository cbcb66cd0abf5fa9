use Rattle.std.proofs.Common.{arith}
use Rattle.ps_plan.specs.Entries.{entry_inputs}
use Rattle.ps_survey.specs.Flaws.{plan_of}
use Rattle.ps_survey.proofs.FlawLemmas.{no-root}
use Rattle.ps_survey.proofs.Fresh.{looks-new}
use Rattle.ps_survey.proofs.orders.order_nodes.Goals as goal

pub returns-then-root-len-clause-order : goal.returns-then-root-len-clause-order
returns-then-root-len-clause-order g c = λ exprs. let t = c.if-root-len.true in let n = c.len.ensures in no-root (plan_of c.args.root c.args.nodes.now.items exprs) c.misshapen.result c.misshapen.ensures (omega (arith, t, n))

pub returns-in-Ok-clause-steps : goal.returns-in-Ok-clause-steps
returns-in-Ok-clause-steps g c = let h = looks-new entry_inputs c.args.nodes.now.items in let s = c.order_from.ensures.steps in omega (arith, h, s)

pub returns-in-Err-clause-steps : goal.returns-in-Err-clause-steps
returns-in-Err-clause-steps g c = let h = looks-new entry_inputs c.args.nodes.now.items in let s = c.order_from.ensures.steps in omega (arith, h, s)
