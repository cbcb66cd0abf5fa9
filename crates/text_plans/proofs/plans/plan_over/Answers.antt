use Rattle.std.proofs.Common.{◌≡◌, ◌+◌, ◌∙◌, ap, length, map, refl, sym}
use Rattle.std.proofs.lemmas.List.{drop_all}
use Rattle.std.proofs.lemmas.Result.{err_from_is_err_and}
use Rattle.std.specs.Prelude.{Err, Some, filter_map, option_map}
use Rattle.ps_plan.specs.Plans.{plan_at}
use Rattle.text_plans.proofs.Planned.{added-plan}
use Rattle.text_plans.proofs.Stages.{first-known, first-tree, scan-whole, unknown-turn}
use Rattle.text_plans.specs.FoundTables.{tables_in}
use Rattle.text_plans.specs.QueryPlans.{first_unknown, scan_at, stage_table, stages_tree}
use Rattle.text_queries.specs.Views.{query_of, stage_of}
use Rattle.text_tokens.specs.declared.error.TextError.TheVariants as refusal
use Rattle.text_plans.proofs.plans.plan_over.Goals as goal

pub loop-stage-init : goal.loop-stage-init
loop-stage-init c =
    let tables = tables_in c.args.tables.now in
    let t = plan_at c.add_scan.new.nodes.items c.new-exprs.result.items c.in_ok-last.last in
    let scan : option_map (scan_at 0) (tables c.args.query.now.source) ≡ Some t =
    (λ i. option_map (scan_at (length (sym c.new-nodes.ensures.empty i))) (tables c.args.query.now.source)) ∙ c.in_ok-last.ensures.tree c.new-exprs.result.items in
    let one : length c.add_scan.new.nodes.items ≡ 1 = c.in_ok-last.ensures.number ∙ (λ i. length (c.new-nodes.ensures.empty i) + 1) in
    record {
      rest = (λ i. stages_tree tables (one i) t (map stage_of (c.as_slice-stage-items.ensures i))) ∙ first-tree tables (query_of c.args.query.now) t scan;
      whole = scan-whole 0 t (tables c.args.query.now.source) scan;
      known = (λ i. first_unknown tables (filter_map stage_table (map stage_of (c.as_slice-stage-items.ensures i)))) ∙ first-known tables (query_of c.args.query.now) t scan;
    }

pub returns-in_err-last-2-clause-unknown : goal.returns-in_err-last-2-clause-unknown
returns-in_err-last-2-clause-unknown c = λ name e.
    let p = err_from_is_err_and c.from_residual-in_err-last-2.result c.from_residual-in_err-last-2.ensures.1 in
    let same : c.in_err-last-2.field-0.0 ≡ refusal.UnknownTable name = cc in
    let told = c.in_err-last-2.ensures.unknown name (ap (λ x. Err x) same) in
    sym c.loop-stage.invariant.known
    ∙ unknown-turn (tables_in c.args.tables.now) c.as_slice-stage-items.result.now c.loop-stage.stage-index c.stage-item.result c.loop-stage-test.true c.stage-item.is name told.0 told.1

pub returns-clause-plan : goal.returns-clause-plan
returns-clause-plan c =
    let tables = tables_in c.args.tables.now in
    let last = plan_at c.loop-stage.nodes.items c.loop-stage.exprs.items c.loop-stage.last in
    sym c.loop-stage.invariant.rest
    ∙ ap (λ xs. stages_tree tables (length c.loop-stage.nodes.items) last (map stage_of xs)) (drop_all c.loop-stage.stage-index c.as_slice-stage-items.result.now c.loop-stage-test.false)
    ∙ ap (λ t. Some t)
    (sym (added-plan c.loop-stage.nodes.items _ c.loop-stage.exprs.items c.loop-stage.exprs.items (λ n h. refl) c.add.new.self.items c.in_ok-root.ensures.added c.in_ok-root.root c.in_ok-root.ensures.number (c.loop-stage.invariant.whole, tt)))
