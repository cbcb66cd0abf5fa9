use Rattle.std.proofs.Common.{◌∙◌, sym}
use Rattle.std.proofs.lemmas.Result.{IfErr-at_err}
use Rattle.plain_queries.specs.Queries.{IsQueryError}
use Rattle.ps_survey.specs.Flaws.{plan_of}
use Rattle.tool_run.proofs.answer.table_of.Goals.{then-serial, else-serial}
use Rattle.tool_run.proofs.answer.table_of.Goals as goal

pub returns-clause-error : goal.returns-clause-error
returns-clause-error g c =
    let Q = IsQueryError (g.F.Functions.told c.args.functions.now) (plan_of c.args.document.root c.args.document.nodes.items c.args.document.exprs.items) in
    elim c.if-serial.branch [
      | then-serial w ↦ IfErr-at_err Q (sym w.answer-is ∙ c.in-Err.is) w.run_query_serial-answer.ensures.error
      | else-serial w ↦ IfErr-at_err Q (sym w.answer-is ∙ c.in-Err.is) w.run_query-answer.ensures.error
    ]
