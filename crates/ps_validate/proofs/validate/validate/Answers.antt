use Rattle.std.proofs.Common.{◌≤◌, length, arith, subst, sym, ◌∙◌, ap}
use Rattle.ps_plan.specs.Graph.{here}
use Rattle.ps_survey.specs.Flaws.{plan_of}
use Rattle.valid_plans.specs.Surveys.{IsSurvey}
use Rattle.ps_validate.proofs.Planning.{cache-error, flaw-error, holds-valid, survey-of}
use Rattle.ps_validate.proofs.Typed.{passed-on}
use Rattle.ps_validate.proofs.Weights.{order-small}
use Rattle.ps_validate.proofs.validate.validate.Goals as goal
use Rattle.ps_validate.specs.Fit.{HaveOneInput}
use Rattle.ps_validate.specs.Errors.{IsPlanError}
use Rattle.valid_plans.specs.Valid.{ValidNodes}

pub returns-in_err-survey-clause-refused : goal.returns-in_err-survey-clause-refused
returns-in_err-survey-clause-refused g c =
    passed-on (IsPlanError (g.F.Functions.told c.args.functions.now) (plan_of c.args.root c.args.ir.items c.args.exprs.now.items)) c.in_err-survey.field-0.0 c.from_residual.result c.from_residual.ensures.1 (flaw-error (g.F.Functions.told c.args.functions.now) (plan_of c.args.root c.args.ir.items c.args.exprs.now.items) c.in_err-survey.field-0.0 c.in_err-survey.ensures.refused)

pub check_caches-requires : goal.check_caches-requires
check_caches-requires g c =
    let survey = (subst (λ ns. IsSurvey (plan_of c.args.root c.args.ir.items c.args.exprs.now.items) ns) (sym c.order.ensures) (survey-of (plan_of c.args.root c.args.ir.items c.args.exprs.now.items) c.in_ok-survey.survey c.in_ok-survey.ensures.reached c.in_ok-survey.ensures.once c.in_ok-survey.ensures.inputs_first c.in_ok-survey.ensures.complete c.in_ok-survey.ensures.in_range c.in_ok-survey.ensures.no_circle c.in_ok-survey.ensures.depth c.in_ok-survey.ensures.occurrences)) in
    λ n stands. (survey.in_range n (survey.reached n stands)).nodes n here

pub returns-in_err-check_caches-clause-refused : goal.returns-in_err-check_caches-clause-refused
returns-in_err-check_caches-clause-refused g c =
    passed-on (IsPlanError (g.F.Functions.told c.args.functions.now) (plan_of c.args.root c.args.ir.items c.args.exprs.now.items)) c.in_err-check_caches.field-0.0 c.from_residual-in_err-check_caches.result c.from_residual-in_err-check_caches.ensures.1
    (cache-error (g.F.Functions.told c.args.functions.now) (plan_of c.args.root c.args.ir.items c.args.exprs.now.items) c.order.result.now (subst (λ ns. IsSurvey (plan_of c.args.root c.args.ir.items c.args.exprs.now.items) ns) (sym c.order.ensures) (survey-of (plan_of c.args.root c.args.ir.items c.args.exprs.now.items) c.in_ok-survey.survey c.in_ok-survey.ensures.reached c.in_ok-survey.ensures.once c.in_ok-survey.ensures.inputs_first c.in_ok-survey.ensures.complete c.in_ok-survey.ensures.in_range c.in_ok-survey.ensures.no_circle c.in_ok-survey.ensures.depth c.in_ok-survey.ensures.occurrences)) c.in_err-check_caches.field-0.0 c.in_err-check_caches.ensures.refused)

pub returns-in_err-check_caches-clause-steps : goal.returns-in_err-check_caches-clause-steps
returns-in_err-check_caches-clause-steps g c =
    let first = c.survey_plan.ensures.steps in
    let small : length c.order.result.now ≤ 65536 = order-small (plan_of c.args.root c.args.ir.items c.args.exprs.now.items) c.order.result.now (subst (λ ns. IsSurvey (plan_of c.args.root c.args.ir.items c.args.exprs.now.items) ns) (sym c.order.ensures) (survey-of (plan_of c.args.root c.args.ir.items c.args.exprs.now.items) c.in_ok-survey.survey c.in_ok-survey.ensures.reached c.in_ok-survey.ensures.once c.in_ok-survey.ensures.inputs_first c.in_ok-survey.ensures.complete c.in_ok-survey.ensures.in_range c.in_ok-survey.ensures.no_circle c.in_ok-survey.ensures.depth c.in_ok-survey.ensures.occurrences)) in
    let caches = c.check_caches.ensures.steps in
    omega arith

pub node_schemas-requires-clause-survey : goal.node_schemas-requires-clause-survey
node_schemas-requires-clause-survey g c =
    λ κs lives. (subst (λ ns. IsSurvey (plan_of c.args.root c.args.ir.items c.args.exprs.now.items) ns) (sym c.order-2.ensures) (survey-of (plan_of c.args.root c.args.ir.items c.args.exprs.now.items) c.in_ok-survey.survey c.in_ok-survey.ensures.reached c.in_ok-survey.ensures.once c.in_ok-survey.ensures.inputs_first c.in_ok-survey.ensures.complete c.in_ok-survey.ensures.in_range c.in_ok-survey.ensures.no_circle c.in_ok-survey.ensures.depth c.in_ok-survey.ensures.occurrences))

pub node_schemas-requires-clause-caches : goal.node_schemas-requires-clause-caches
node_schemas-requires-clause-caches g c =
    λ κs lives. subst (λ ns. HaveOneInput c.args.ir.items ns) (c.order.ensures ∙ sym c.order-2.ensures) c.in_ok-check_caches.ensures.one_input

pub returns-in_err-schemas-clause-steps : goal.returns-in_err-schemas-clause-steps
returns-in_err-schemas-clause-steps g c =
    let first = c.survey_plan.ensures.steps in
    let small : length c.order.result.now ≤ 65536 = order-small (plan_of c.args.root c.args.ir.items c.args.exprs.now.items) c.order.result.now (subst (λ ns. IsSurvey (plan_of c.args.root c.args.ir.items c.args.exprs.now.items) ns) (sym c.order.ensures) (survey-of (plan_of c.args.root c.args.ir.items c.args.exprs.now.items) c.in_ok-survey.survey c.in_ok-survey.ensures.reached c.in_ok-survey.ensures.once c.in_ok-survey.ensures.inputs_first c.in_ok-survey.ensures.complete c.in_ok-survey.ensures.in_range c.in_ok-survey.ensures.no_circle c.in_ok-survey.ensures.depth c.in_ok-survey.ensures.occurrences)) in
    let caches = c.check_caches.ensures.steps in
    let nodes = c.node_schemas.ensures.steps in
    omega arith

pub returns-clause-steps : goal.returns-clause-steps
returns-clause-steps g c =
    let first = c.survey_plan.ensures.steps in
    let small : length c.order.result.now ≤ 65536 = order-small (plan_of c.args.root c.args.ir.items c.args.exprs.now.items) c.order.result.now (subst (λ ns. IsSurvey (plan_of c.args.root c.args.ir.items c.args.exprs.now.items) ns) (sym c.order.ensures) (survey-of (plan_of c.args.root c.args.ir.items c.args.exprs.now.items) c.in_ok-survey.survey c.in_ok-survey.ensures.reached c.in_ok-survey.ensures.once c.in_ok-survey.ensures.inputs_first c.in_ok-survey.ensures.complete c.in_ok-survey.ensures.in_range c.in_ok-survey.ensures.no_circle c.in_ok-survey.ensures.depth c.in_ok-survey.ensures.occurrences)) in
    let caches = c.check_caches.ensures.steps in
    let nodes = c.node_schemas.ensures.steps in
    omega arith

pub returns-clause-root : goal.returns-clause-root
returns-clause-root g c = ap (λ (v : ValidNodes). v.root) c.new.ensures

pub returns-clause-nodes : goal.returns-clause-nodes
returns-clause-nodes g c = ap (λ (v : ValidNodes). v.nodes) c.new.ensures

pub returns-clause-valid : goal.returns-clause-valid
returns-clause-valid g c =
    let survey = (subst (λ ns. IsSurvey (plan_of c.args.root c.args.ir.items c.args.exprs.now.items) ns) (sym c.into_order.ensures) (survey-of (plan_of c.args.root c.args.ir.items c.args.exprs.now.items) c.in_ok-survey.survey c.in_ok-survey.ensures.reached c.in_ok-survey.ensures.once c.in_ok-survey.ensures.inputs_first c.in_ok-survey.ensures.complete c.in_ok-survey.ensures.in_range c.in_ok-survey.ensures.no_circle c.in_ok-survey.ensures.depth c.in_ok-survey.ensures.occurrences)) in
    holds-valid (g.F.Functions.told c.args.functions.now) c.args.root c.args.ir.items c.args.exprs.now.items c.in_ok-schemas.schemas c.into_order.result.items c.new.result c.new.ensures c.in_ok-schemas.ensures.valid c.in_ok-schemas.ensures.schemas c.in_ok-schemas.ensures.typed survey
