use Rattle.std.proofs.Common.{inl, inr, subst}
use Rattle.std.proofs.lemmas.Result.{IfOk-weaker}
use Rattle.tool_run.proofs.Runs.{explanation-answers, table-answers}
use Rattle.tool_run.proofs.answer.answer.Goals as goal
use Rattle.tool_run.specs.Asked.{IsWantedBy}

pub returns-in-Plan-clause-text : goal.returns-in-Plan-clause-text
returns-in-Plan-clause-text g c = λ words h.
    let run = subst (IsWantedBy words) c.in-Plan.is h in
    IfOk-weaker c.answer_plan.result _ _ (λ text. table-answers (g.F.Functions.told c.args.functions.now) words c.args.bytes.items text.items (inl run)) (c.answer_plan.ensures.text words run)

pub returns-in-Plan-clause-outcome : goal.returns-in-Plan-clause-outcome
returns-in-Plan-clause-outcome g c = λ words h. c.answer_plan.ensures.outcome words (subst (IsWantedBy words) c.in-Plan.is h)

pub returns-in-Query-clause-text : goal.returns-in-Query-clause-text
returns-in-Query-clause-text g c = λ words h.
    let text = subst (IsWantedBy words) c.in-Query.is h in
    IfOk-weaker c.answer_query.result _ _ (λ answer. table-answers (g.F.Functions.told c.args.functions.now) words c.args.bytes.items answer.items (inr text)) (c.answer_query.ensures.text words text)

pub returns-in-Query-clause-outcome : goal.returns-in-Query-clause-outcome
returns-in-Query-clause-outcome g c = λ words h. c.answer_query.ensures.outcome words (subst (IsWantedBy words) c.in-Query.is h)

pub returns-in-Explanation-clause-text : goal.returns-in-Explanation-clause-text
returns-in-Explanation-clause-text g c = λ words h.
    let explain = subst (IsWantedBy words) c.in-Explanation.is h in
    IfOk-weaker c.explain.result _ _ (λ text. explanation-answers (g.F.Functions.told c.args.functions.now) words c.args.bytes.items text.items explain) (c.explain.ensures.text words explain)

pub returns-in-Explanation-clause-outcome : goal.returns-in-Explanation-clause-outcome
returns-in-Explanation-clause-outcome g c = λ words h. c.explain.ensures.outcome words (subst (IsWantedBy words) c.in-Explanation.is h)
