use Rattle.std.proofs.Common.{inl, inr}
use Rattle.ps_survey.specs.Flaws.{plan_of}
use Rattle.tool_run.proofs.Answered.{unexplained-by}
use Rattle.tool_run.proofs.answer.explain.Goals as goal

pub returns-in-Err-explained-clause-outcome : goal.returns-in-Err-explained-clause-outcome
returns-in-Err-explained-clause-outcome g c = λ words explain.
    unexplained-by (g.F.Functions.told c.args.functions.now) words c.args.bytes.items (plan_of c.in-Ok.document.root c.in-Ok.document.nodes.items c.in-Ok.document.exprs.items) (inl (inr explain, c.in-Ok.ensures.document)) c.in-Err-explained.error c.unanswered.result
    c.in-Err-explained.ensures.error c.unanswered.ensures
