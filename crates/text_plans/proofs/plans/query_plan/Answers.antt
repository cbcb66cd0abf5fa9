use Rattle.std.proofs.Common.{◌≡◌, List, subst, ℕ}
use Rattle.std.specs.Prelude.{Err, IfOk, None, Some}
use Rattle.ps_plan.specs.Plans.{plan_at}
use Rattle.text_plans.specs.QueryPlans.{Tables, first_unknown, query_tables, query_tree}
use Rattle.text_queries.specs.Views.{query_of}
use Rattle.text_tokens.specs.declared.error.TextError.TheVariants as refusal
use Rattle.text_plans.proofs.plans.query_plan.Goals as goal

pub returns-clause-plan : goal.returns-clause-plan
returns-clause-plan c =
    let P : Tables → Type 0 = λ tables. IfOk c.plan_over.result (λ p. query_tree tables (query_of c.args.query.now) ≡ Some (plan_at p.1.items p.2.items p.0)) in
    subst P c.in_ok-tables.ensures c.plan_over.ensures.plan

pub returns-clause-known : goal.returns-clause-known
returns-clause-known c =
    let P : Tables → Type 0 = λ tables. IfOk c.plan_over.result (λ _. first_unknown tables (query_tables (query_of c.args.query.now)) ≡ None) in
    subst P c.in_ok-tables.ensures c.plan_over.ensures.known

pub returns-clause-unknown : goal.returns-clause-unknown
returns-clause-unknown c =
    let P : Tables → Type 0 = λ tables. (name : List ℕ) → c.plan_over.result ≡ Err (refusal.UnknownTable name) → first_unknown tables (query_tables (query_of c.args.query.now)) ≡ Some name in
    subst P c.in_ok-tables.ensures c.plan_over.ensures.unknown
