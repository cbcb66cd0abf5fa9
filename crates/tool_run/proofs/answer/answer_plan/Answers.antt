use Rattle.std.proofs.Common.{inl}
use Rattle.ps_survey.specs.Flaws.{plan_of}
use Rattle.tool_run.proofs.Answered.{unanswered-by}
use Rattle.tool_run.proofs.answer.answer_plan.Goals as goal

pub returns-in-Err-text_of-clause-outcome : goal.returns-in-Err-text_of-clause-outcome
returns-in-Err-text_of-clause-outcome g c = λ words run.
    unanswered-by (g.F.Functions.told c.args.functions.now) words c.args.bytes.items (plan_of c.in-Ok.document.root c.in-Ok.document.nodes.items c.in-Ok.document.exprs.items) (inl (inl run, c.in-Ok.ensures.document)) (inl run) c.in-Err-text_of.error c.unanswered.result
    c.in-Err-text_of.ensures.error c.unanswered.ensures
