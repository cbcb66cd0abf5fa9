use Rattle.std.proofs.Common.{subst, sym}
use Rattle.std.specs.Prelude.{IfErr, IfOk}
use Rattle.ps_survey.specs.Flaws.{plan_of}
use Rattle.valid_plans.specs.Surveys.{IsSurvey}
use Rattle.valid_plans.specs.Valid.{plan_with}
use Rattle.plain_queries.proofs.Running.{refusal-query-error, same-plan}
use Rattle.plain_queries.specs.Queries.{IsQueryAnswer, IsQueryError}
use Rattle.plain_queries.proofs.query.table_of.Goals as goal

pub run-requires-clause-survey : goal.run-requires-clause-survey
run-requires-clause-survey g c =
    λ κs lives. subst (λ ns. IsSurvey (plan_with c.in-Ok.valid c.args.exprs.now.items) ns) (sym c.order.ensures) c.in-Ok.ensures.valid.survey

pub returns-in-Ok-clause-table : goal.returns-in-Ok-clause-table
returns-in-Ok-clause-table g c =
    subst (λ plan. IfOk c.run.result (IsQueryAnswer (g.F.Functions.told c.args.functions.now) plan))
    (same-plan c.in-Ok.valid c.args.root c.args.ir.items c.args.exprs.now.items c.in-Ok.ensures.root c.in-Ok.ensures.nodes) c.run.ensures.table

pub returns-in-Ok-clause-error : goal.returns-in-Ok-clause-error
returns-in-Ok-clause-error g c =
    subst (λ plan. IfErr c.run.result (IsQueryError (g.F.Functions.told c.args.functions.now) plan))
    (same-plan c.in-Ok.valid c.args.root c.args.ir.items c.args.exprs.now.items c.in-Ok.ensures.root c.in-Ok.ensures.nodes) c.run.ensures.error

pub returns-clause-error : goal.returns-clause-error
returns-clause-error g c =
    refusal-query-error (g.F.Functions.told c.args.functions.now) (plan_of c.args.root c.args.ir.items c.args.exprs.now.items) c.in-Err.error c.in-Err.ensures.refused
