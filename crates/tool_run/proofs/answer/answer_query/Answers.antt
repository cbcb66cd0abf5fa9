use Rattle.std.proofs.Common.{inr, ap}
use Rattle.std.specs.Prelude.{Err}
use Rattle.ps_survey.specs.Flaws.{plan_of}
use Rattle.query_document.specs.QueryDocuments.{asked_of}
use Rattle.tool_run.proofs.Answered.{unanswered-by, unplanned-by}
use Rattle.tool_run.proofs.answer.answer_query.Goals as goal

pub returns-in-Err-text_of-clause-outcome : goal.returns-in-Err-text_of-clause-outcome
returns-in-Err-text_of-clause-outcome g c = λ words text.
    let document = c.in-Ok-planned.document in
    unanswered-by (g.F.Functions.told c.args.functions.now) words c.args.bytes.items (plan_of document.root document.nodes.items document.exprs.items) (inr (text, (asked_of c.in-Ok.asked, c.in-Ok.ensures.document, c.in-Ok-planned.ensures.plan))) (inr text) c.in-Err-text_of.error c.unanswered.result
    c.in-Err-text_of.ensures.error c.unanswered.ensures

pub returns-in-Err-planned-clause-outcome : goal.returns-in-Err-planned-clause-outcome
returns-in-Err-planned-clause-outcome g c = λ words text.
    unplanned-by (g.F.Functions.told c.args.functions.now) words c.args.bytes.items text (asked_of c.in-Ok.asked) c.in-Ok.ensures.document c.in-Err-planned.error c.unplanned.result (λ e. c.in-Err-planned.ensures.reading (ap Err e)) (λ name e. c.in-Err-planned.ensures.unknown name (ap Err e)) c.unplanned.ensures.reading c.unplanned.ensures.table c.unplanned.ensures.memory
