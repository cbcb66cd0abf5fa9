use Rattle.std.proofs.Common.{◌≡◌, ◌+◌, ◌*◌, ◌<◌, ◌≤◌, ℕ, List, length, ap, subst, sym, arith}
use Rattle.std.specs.Prelude.{Contains}
use Rattle.ps_plan.specs.Graph.{operands}
use Rattle.ps_plan.specs.Entries.{entry_exprs, entry_inputs}
use Rattle.ps_survey.specs.Counts.{all_names, looks_at, names_in}
use Rattle.ps_survey.specs.Extents.{HasExtent, expr_depth, expr_size}
use Rattle.ps_survey.specs.Flaws.{plan_of}
use Rattle.ps_survey.specs.Orders.{IsExprOrder, all_in, exprs_in, inputs_in, operands_in}
use Rattle.valid_plans.specs.Surveys.{NamedFirst}
use Rattle.ps_survey.proofs.NoCircles.{has-no-circle, is-expression, is-plan}
use Rattle.ps_survey.proofs.Pigeons.{all-looks-once, looks-once}
use Rattle.ps_survey.proofs.SurveyLemmas.{is-memory, survey-of}
use Rattle.ps_survey.proofs.survey.survey_order.Goals as goal

pub order_exprs-requires : goal.order_exprs-requires
order_exprs-requires g c = λ n h. (c.in-Ok.ensures.order c.args.exprs.now.items).within n (subst (λ xs. Contains xs n) c.deref.ensures.value h)

pub returns-in-Err-order_exprs-clause-survey : goal.returns-in-Err-order_exprs-clause-survey
returns-in-Err-order_exprs-clause-survey g c =
    let ns = c.in-Ok.ensures.order c.args.exprs.now.items in
    c.in-Err-order_exprs.ensures.exprs c.args.root (λ n h. ns.reached n (subst (λ xs. Contains xs n) c.deref.ensures.value h))

pub returns-in-Err-order_exprs-clause-steps : goal.returns-in-Err-order_exprs-clause-steps
returns-in-Err-order_exprs-clause-steps g c =
    let plan = plan_of c.args.root c.args.ir.now.items c.args.exprs.now.items in
    let order = c.in-Ok.order.items in
    let ns = c.in-Ok.ensures.order c.args.exprs.now.items in
    let a = c.order_nodes.ensures.steps in
    let b = c.order_exprs.ensures.steps in
    let eb = ap (looks_at (exprs_in c.args.ir.now.items)) c.deref.ensures.value in
    let pb = looks-once entry_exprs c.args.ir.now.items order ns.once ns.within in
    omega (arith, a, b, eb, pb)

pub expr_extents-requires-clause-complete : goal.expr_extents-requires-clause-complete
expr_extents-requires-clause-complete g c = λ e h.
    let plan = plan_of c.args.root c.args.ir.now.items c.args.exprs.now.items in
    let order = c.in-Ok.order.items in
    let ns = c.in-Ok.ensures.order c.args.exprs.now.items in
    let named = c.in-Ok-order_exprs.named.items in
    let es = subst (λ xs. IsExprOrder plan xs named) c.deref.ensures.value (c.in-Ok-order_exprs.ensures.exprs c.args.root (λ n h. ns.reached n (subst (λ xs. Contains xs n) c.deref.ensures.value h))) in
    is-expression plan order named ns es e (subst (λ xs. Contains xs e) c.deref-2.ensures.value h)

pub expr_extents-requires-clause-first : goal.expr_extents-requires-clause-first
expr_extents-requires-clause-first g c =
    let plan = plan_of c.args.root c.args.ir.now.items c.args.exprs.now.items in
    let order = c.in-Ok.order.items in
    let ns = c.in-Ok.ensures.order c.args.exprs.now.items in
    let named = c.in-Ok-order_exprs.named.items in
    let es = subst (λ xs. IsExprOrder plan xs named) c.deref.ensures.value (c.in-Ok-order_exprs.ensures.exprs c.args.root (λ n h. ns.reached n (subst (λ xs. Contains xs n) c.deref.ensures.value h))) in
    subst (λ xs. NamedFirst (operands_in c.args.exprs.now.items) xs) (sym c.deref-2.ensures.value) es.first

pub returns-in-Err-expr_extents-clause-survey : goal.returns-in-Err-expr_extents-clause-survey
returns-in-Err-expr_extents-clause-survey g c = is-memory (plan_of c.args.root c.args.ir.now.items c.args.exprs.now.items) c.in-Err-expr_extents.error (let m = c.in-Err-expr_extents.ensures.memory in cc)

pub returns-in-Err-expr_extents-clause-steps : goal.returns-in-Err-expr_extents-clause-steps
returns-in-Err-expr_extents-clause-steps g c =
    let plan = plan_of c.args.root c.args.ir.now.items c.args.exprs.now.items in
    let order = c.in-Ok.order.items in
    let ns = c.in-Ok.ensures.order c.args.exprs.now.items in
    let named = c.in-Ok-order_exprs.named.items in
    let es = subst (λ xs. IsExprOrder plan xs named) c.deref.ensures.value (c.in-Ok-order_exprs.ensures.exprs c.args.root (λ n h. ns.reached n (subst (λ xs. Contains xs n) c.deref.ensures.value h))) in
    let a = c.order_nodes.ensures.steps in
    let b = c.order_exprs.ensures.steps in
    let eb = ap (looks_at (exprs_in c.args.ir.now.items)) c.deref.ensures.value in
    let pb = looks-once entry_exprs c.args.ir.now.items order ns.once ns.within in
    let d = c.expr_extents.ensures.steps in
    let ed = ap (looks_at (operands_in c.args.exprs.now.items)) c.deref-2.ensures.value in
    let pd = looks-once operands c.args.exprs.now.items named es.once es.within in
    omega (arith, a, b, eb, pb, d, ed, pd)

pub check_limits-requires-clause-complete : goal.check_limits-requires-clause-complete
check_limits-requires-clause-complete g c = λ n h.
    let plan = plan_of c.args.root c.args.ir.now.items c.args.exprs.now.items in
    let order = c.in-Ok.order.items in
    let ns = c.in-Ok.ensures.order c.args.exprs.now.items in
    let named = c.in-Ok-order_exprs.named.items in
    let es = subst (λ xs. IsExprOrder plan xs named) c.deref.ensures.value (c.in-Ok-order_exprs.ensures.exprs c.args.root (λ n h. ns.reached n (subst (λ xs. Contains xs n) c.deref.ensures.value h))) in
    is-plan plan order named ns es n (subst (λ xs. Contains xs n) c.deref-3.ensures.value h)

pub check_limits-requires-clause-first : goal.check_limits-requires-clause-first
check_limits-requires-clause-first g c =
    let plan = plan_of c.args.root c.args.ir.now.items c.args.exprs.now.items in
    let order = c.in-Ok.order.items in
    let ns = c.in-Ok.ensures.order c.args.exprs.now.items in
    subst (λ xs. NamedFirst (inputs_in c.args.ir.now.items) xs) (sym c.deref-3.ensures.value) ns.first

pub check_limits-requires-clause-own : goal.check_limits-requires-clause-own
check_limits-requires-clause-own g c = λ n e h own.
    let plan = plan_of c.args.root c.args.ir.now.items c.args.exprs.now.items in
    let order = c.in-Ok.order.items in
    let ns = c.in-Ok.ensures.order c.args.exprs.now.items in
    let named = c.in-Ok-order_exprs.named.items in
    let es = subst (λ xs. IsExprOrder plan xs named) c.deref.ensures.value (c.in-Ok-order_exprs.ensures.exprs c.args.root (λ n h. ns.reached n (subst (λ xs. Contains xs n) c.deref.ensures.value h))) in
    let known = es.own n e (subst (λ xs. Contains xs n) c.deref-3.ensures.value h) own in
    subst (λ t. HasExtent t e (expr_depth c.args.exprs.now.items e) (expr_size c.args.exprs.now.items e)) (sym c.deref-4.ensures.value)
    (c.in-Ok-expr_extents.ensures.extents e (subst (λ xs. Contains xs e) (sym c.deref-2.ensures.value) known))

pub returns-in-Ok-check_limits-clause-survey : goal.returns-in-Ok-check_limits-clause-survey
returns-in-Ok-check_limits-clause-survey g c =
    let plan = plan_of c.args.root c.args.ir.now.items c.args.exprs.now.items in
    let order = c.in-Ok.order.items in
    let ns = c.in-Ok.ensures.order c.args.exprs.now.items in
    let named = c.in-Ok-order_exprs.named.items in
    let es = subst (λ xs. IsExprOrder plan xs named) c.deref.ensures.value (c.in-Ok-order_exprs.ensures.exprs c.args.root (λ n h. ns.reached n (subst (λ xs. Contains xs n) c.deref.ensures.value h))) in
    survey-of plan order named ns es (λ n h. c.in-Ok-check_limits.ensures.within n (subst (λ xs. Contains xs n) (sym c.deref-3.ensures.value) h))

pub returns-in-Ok-check_limits-clause-steps : goal.returns-in-Ok-check_limits-clause-steps
returns-in-Ok-check_limits-clause-steps g c =
    let plan = plan_of c.args.root c.args.ir.now.items c.args.exprs.now.items in
    let order = c.in-Ok.order.items in
    let ns = c.in-Ok.ensures.order c.args.exprs.now.items in
    let named = c.in-Ok-order_exprs.named.items in
    let es = subst (λ xs. IsExprOrder plan xs named) c.deref.ensures.value (c.in-Ok-order_exprs.ensures.exprs c.args.root (λ n h. ns.reached n (subst (λ xs. Contains xs n) c.deref.ensures.value h))) in
    let a = c.order_nodes.ensures.steps in
    let b = c.order_exprs.ensures.steps in
    let eb = ap (looks_at (exprs_in c.args.ir.now.items)) c.deref.ensures.value in
    let pb = looks-once entry_exprs c.args.ir.now.items order ns.once ns.within in
    let d = c.expr_extents.ensures.steps in
    let ed = ap (looks_at (operands_in c.args.exprs.now.items)) c.deref-2.ensures.value in
    let pd = looks-once operands c.args.exprs.now.items named es.once es.within in
    let l = c.check_limits.ensures.steps in
    let el = ap (looks_at (all_in c.args.ir.now.items)) c.deref-3.ensures.value in
    let pl = all-looks-once c.args.ir.now.items order ns.once ns.within in
    omega (arith, a, b, eb, pb, d, ed, pd, l, el, pl)

pub returns-in-Err-check_limits-clause-survey : goal.returns-in-Err-check_limits-clause-survey
returns-in-Err-check_limits-clause-survey g c =
    let plan = plan_of c.args.root c.args.ir.now.items c.args.exprs.now.items in
    let order = c.in-Ok.order.items in
    let ns = c.in-Ok.ensures.order c.args.exprs.now.items in
    let named = c.in-Ok-order_exprs.named.items in
    let es = subst (λ xs. IsExprOrder plan xs named) c.deref.ensures.value (c.in-Ok-order_exprs.ensures.exprs c.args.root (λ n h. ns.reached n (subst (λ xs. Contains xs n) c.deref.ensures.value h))) in
    c.in-Err-check_limits.ensures.flaw c.args.root (λ n h. ns.reached n (subst (λ xs. Contains xs n) c.deref-3.ensures.value h))
    (λ n h. has-no-circle plan order named ns es n (subst (λ xs. Contains xs n) c.deref-3.ensures.value h))

pub returns-in-Err-check_limits-clause-steps : goal.returns-in-Err-check_limits-clause-steps
returns-in-Err-check_limits-clause-steps g c =
    let plan = plan_of c.args.root c.args.ir.now.items c.args.exprs.now.items in
    let order = c.in-Ok.order.items in
    let ns = c.in-Ok.ensures.order c.args.exprs.now.items in
    let named = c.in-Ok-order_exprs.named.items in
    let es = subst (λ xs. IsExprOrder plan xs named) c.deref.ensures.value (c.in-Ok-order_exprs.ensures.exprs c.args.root (λ n h. ns.reached n (subst (λ xs. Contains xs n) c.deref.ensures.value h))) in
    let a = c.order_nodes.ensures.steps in
    let b = c.order_exprs.ensures.steps in
    let eb = ap (looks_at (exprs_in c.args.ir.now.items)) c.deref.ensures.value in
    let pb = looks-once entry_exprs c.args.ir.now.items order ns.once ns.within in
    let d = c.expr_extents.ensures.steps in
    let ed = ap (looks_at (operands_in c.args.exprs.now.items)) c.deref-2.ensures.value in
    let pd = looks-once operands c.args.exprs.now.items named es.once es.within in
    let l = c.check_limits.ensures.steps in
    let el = ap (looks_at (all_in c.args.ir.now.items)) c.deref-3.ensures.value in
    let pl = all-looks-once c.args.ir.now.items order ns.once ns.within in
    omega (arith, a, b, eb, pb, d, ed, pd, l, el, pl)
