use Rattle.std.proofs.Common.{subst, sym}
use Rattle.valid_plans.specs.Surveys.{IsSurvey}
use Rattle.valid_plans.specs.Valid.{plan_with}
use Rattle.ps_fresh.proofs.InUse.{are_there, have_schemas, knows}
use Rattle.ps_fresh.proofs.name_source.NameSource.new.Goals as goal

pub numbers_in_use-requires-clause-known : goal.numbers_in_use-requires-clause-known
numbers_in_use-requires-clause-known c =
    let survey = subst (λ ns. IsSurvey (plan_with c.args.valid.now c.args.exprs.now.items) ns) (sym c.order.ensures) c.requires.1.survey in
    have_schemas c.args.valid.now c.args.exprs.now.items c.order.result.now survey c.requires.0 c.requires.1

pub numbers_in_use-requires-clause-there : goal.numbers_in_use-requires-clause-there
numbers_in_use-requires-clause-there c =
    let survey = subst (λ ns. IsSurvey (plan_with c.args.valid.now c.args.exprs.now.items) ns) (sym c.order.ensures) c.requires.1.survey in
    are_there c.args.valid.now c.args.exprs.now.items c.order.result.now survey

pub returns-clause-names : goal.returns-clause-names
returns-clause-names c F valid =
    let survey = subst (λ ns. IsSurvey (plan_with c.args.valid.now c.args.exprs.now.items) ns) (sym c.order.ensures) valid.survey in
    knows c.args.valid.now c.args.exprs.now.items c.order.result.now survey F valid c.in_ok-taken.taken.keys c.in_ok-taken.ensures.numbers c.in_ok-taken.ensures.rising
