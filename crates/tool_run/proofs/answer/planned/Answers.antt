use Rattle.std.proofs.Common.{◌≡◌, Some, None, sym, subst, ap}
use Rattle.std.specs.Prelude.{Err, List, ℕ}
use Rattle.ps_plan.specs.Plans.{plan_at}
use Rattle.text_plans.specs.QueryPlans.{first_unknown, query_tables, query_tree, table_named}
use Rattle.text_queries.specs.Grammar.{ReadsAs}
use Rattle.text_queries.specs.Views.{query_of}
use Rattle.text_tokens.specs.declared.error.TextError.TheVariants as refusal
use Rattle.tool_run.proofs.answer.planned.Goals as goal

pub returns-in-Err-clause-reading : goal.returns-in-Err-clause-reading
returns-in-Err-clause-reading c = λ e query reads.
    let same : c.in-Err.error ≡ refusal.NoReading = cc in
    c.in-Err.ensures.none (ap Err same) query (subst (λ text. ReadsAs text query) (sym c.as_str.ensures) reads)

pub returns-in-Ok-query_plan-clause-plan : goal.returns-in-Ok-query_plan-clause-plan
returns-in-Ok-query_plan-clause-plan c =
    let document = c.args.document in
    let names = c.as_slice.ensures in
    record {
      query = query_of c.in-Ok.query;
      reads = subst (λ text. ReadsAs text (query_of c.in-Ok.query)) c.as_str.ensures c.in-Ok.ensures.found;
      only = λ other reads. c.in-Ok.ensures.only other (subst (λ text. ReadsAs text other) (sym c.as_str.ensures) reads);
      known = subst (λ (names : List (List ℕ)). first_unknown (table_named names document.tables.items) (query_tables (query_of c.in-Ok.query)) ≡ None) names c.in-Ok-query_plan.ensures.known;
      is_tree = subst (λ (names : List (List ℕ)). query_tree (table_named names document.tables.items) (query_of c.in-Ok.query) ≡ Some (plan_at c.in-Ok-query_plan.nodes.items c.in-Ok-query_plan.exprs.items c.in-Ok-query_plan.root)) names c.in-Ok-query_plan.ensures.plan;
    }
