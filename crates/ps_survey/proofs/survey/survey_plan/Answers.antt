use Rattle.ps_survey.specs.Flaws.{plan_of}
use Rattle.ps_survey.proofs.SurveyLemmas.{no-flaw, refused-or-memory}
use Rattle.ps_survey.proofs.survey.survey_plan.Goals as goal

pub returns-in-Ok-clause-no_flaw : goal.returns-in-Ok-clause-no_flaw
returns-in-Ok-clause-no_flaw g c = no-flaw (plan_of c.args.root c.args.ir.now.items c.args.exprs.now.items) c.in-Ok.order.items c.in-Ok.ensures.survey

pub returns-in-Err-clause-refused : goal.returns-in-Err-clause-refused
returns-in-Err-clause-refused g c = refused-or-memory (plan_of c.args.root c.args.ir.now.items c.args.exprs.now.items) c.in-Err.error c.in-Err.ensures.survey
