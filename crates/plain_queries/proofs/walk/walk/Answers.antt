use Rattle.std.proofs.Common.{◌≡◌, ◌<◌, get_or, length, arith, sym, subst, ap, ◌∙◌}
use Rattle.std.specs.Prelude.{None, Some, replicate, slice_get}
use Rattle.std.specs.List.{All}
use Rattle.std.proofs.lemmas.Option.{slice_get-get_or, slice_get_within}
use Rattle.std.proofs.lemmas.Result.{IfOk-weaker}
use Rattle.pu_base.specs.declared.arena.Node.{Node}
use Rattle.ps_frame.specs.Tables.{whole}
use Rattle.ps_meaning.specs.Meaning.{IsMeaning}
use Rattle.ps_plan.specs.Plans.{tree_of}
use Rattle.ps_plan.specs.Entries.{entry_inputs}
use Rattle.valid_plans.specs.Valid.{plan_with}
use Rattle.ps_validate.proofs.Typed.{passed-on}
use Rattle.ps_node_eval.specs.Nodes.{FitInputs, NodeFaults, NodeGives}
use Rattle.plain_queries.proofs.Running.{run-error}
use Rattle.plain_queries.proofs.Walking.{Walking, node-done, node-fault, node-fit, node-held, place-within, root-held, root-means, walking-first}
use Rattle.plain_queries.specs.Held.{AreHeld, IsHeld, table_in, tables_in}
use Rattle.plain_queries.specs.Queries.{IsRunError}
use Rattle.plain_queries.proofs.walk.walk.Goals as goal

pub loop-place-init : goal.loop-place-init
loop-place-init g c =
    walking-first (g.F.Functions.told c.args.functions.now) (plan_with c.args.valid.now c.args.exprs.now.items) c.args.order.now c.args.until.now c.in_ok-tables.tables
    (c.in_ok-tables.ensures.none ∙ ap (λ k. replicate k None) (c.len.ensures ∙ ap length c.ir.ensures))

pub get-requires : goal.get-requires
get-requires g c =
    let n = get_or c.args.order.now c.loop-place.place 0 in
    subst (λ ns. n < length ns) (sym c.ir-in-loop-place.ensures)
    (place-within (g.F.Functions.told c.args.functions.now) (plan_with c.args.valid.now c.args.exprs.now.items) c.args.order.now c.args.until.now c.requires.survey c.requires.wanted
    c.loop-place.place n (slice_get-get_or c.args.order.now c.loop-place.place 0 c.loop-place-test.true))

pub share_all-requires : goal.share_all-requires
share_all-requires g c =
    let n = get_or c.args.order.now c.loop-place.place 0 in
    let is = subst (λ ns. slice_get ns n ≡ Some c.get.result.now) c.ir-in-loop-place.ensures c.get.ensures in
    subst (λ ns. AreHeld c.loop-place.tables ns) (sym (c.as_slice.ensures.value ∙ c.in_ok-inputs.ensures.inputs))
    (node-held (g.F.Functions.told c.args.functions.now) (plan_with c.args.valid.now c.args.exprs.now.items) c.args.order.now c.args.until.now c.requires.survey c.requires.wanted
    c.loop-place.place c.loop-place.tables n c.get.result.now (slice_get-get_or c.args.order.now c.loop-place.place 0 c.loop-place-test.true) is c.loop-place.invariant)

pub release-requires-clause-held : goal.release-requires-clause-held
release-requires-clause-held g c =
    let n = get_or c.args.order.now c.loop-place.place 0 in
    let is = subst (λ ns. slice_get ns n ≡ Some c.get.result.now) c.ir-in-loop-place.ensures c.get.ensures in
    let held = node-held (g.F.Functions.told c.args.functions.now) (plan_with c.args.valid.now c.args.exprs.now.items) c.args.order.now c.args.until.now c.requires.survey c.requires.wanted
    c.loop-place.place c.loop-place.tables n c.get.result.now (slice_get-get_or c.args.order.now c.loop-place.place 0 c.loop-place-test.true) is c.loop-place.invariant in
    subst (λ ns. All (λ (m : Node). m.0 < length c.loop-place.tables) ns) (sym (c.as_slice-in-loop-place.ensures.value ∙ c.in_ok-inputs.ensures.inputs))
    (λ k d h. slice_get_within c.loop-place.tables (get_or (entry_inputs c.get.result.now) k d).0 (Some (held k d h).0) (held k d h).1)

pub evaluate_node-requires-clause-inputs : goal.evaluate_node-requires-clause-inputs
evaluate_node-requires-clause-inputs g c =
    let F = g.F.Functions.told c.args.functions.now in
    let plan = plan_with c.args.valid.now c.args.exprs.now.items in
    let n = get_or c.args.order.now c.loop-place.place 0 in
    let is = subst (λ ns. slice_get ns n ≡ Some c.get.result.now) c.ir-in-loop-place.ensures c.get.ensures in
    let given = c.as_slice-in-loop-place-2.ensures.value ∙ c.in_ok-given.ensures.tables ∙ ap (tables_in c.loop-place.tables) (c.as_slice.ensures.value ∙ c.in_ok-inputs.ensures.inputs) in
    λ κs lives. subst (λ fs. FitInputs F plan n fs) (sym given)
    (node-fit F plan c.args.order.now c.args.until.now c.requires.survey c.requires.wanted
    c.loop-place.place c.loop-place.tables n c.get.result.now (slice_get-get_or c.args.order.now c.loop-place.place 0 c.loop-place-test.true) is c.loop-place.invariant)

pub returns-in_err-table-clause-fault : goal.returns-in_err-table-clause-fault
returns-in_err-table-clause-fault g c =
    let F = g.F.Functions.told c.args.functions.now in
    let plan = plan_with c.args.valid.now c.args.exprs.now.items in
    let n = get_or c.args.order.now c.loop-place.place 0 in
    let is = subst (λ ns. slice_get ns n ≡ Some c.get.result.now) c.ir-in-loop-place.ensures c.get.ensures in
    let given = c.as_slice-in-loop-place-2.ensures.value ∙ c.in_ok-given.ensures.tables ∙ ap (tables_in c.loop-place.tables) (c.as_slice.ensures.value ∙ c.in_ok-inputs.ensures.inputs) in
    let x = c.in_err-table.field-0.0 in
    passed-on (IsRunError F plan) x c.from_residual-in_err-table.result c.from_residual-in_err-table.ensures.1
    (run-error F plan n x (node-fault F plan c.args.order.now c.args.until.now c.requires.survey c.requires.wanted
    c.loop-place.place c.loop-place.tables n c.get.result.now (slice_get-get_or c.args.order.now c.loop-place.place 0 c.loop-place-test.true) is c.loop-place.invariant c.requires.valid.valid x
    (subst (λ fs. NodeFaults F plan n fs x) given c.in_err-table.ensures.fault)))

pub set-requires : goal.set-requires
set-requires g c =
    let n = get_or c.args.order.now c.loop-place.place 0 in
    let small = place-within (g.F.Functions.told c.args.functions.now) (plan_with c.args.valid.now c.args.exprs.now.items) c.args.order.now c.args.until.now c.requires.survey c.requires.wanted
    c.loop-place.place n (slice_get-get_or c.args.order.now c.loop-place.place 0 c.loop-place-test.true) in
    let size = c.loop-place.invariant.size in
    let same = c.release.ensures.size in
    omega (arith, small, size, same)

pub loop-place-preserved : goal.loop-place-preserved
loop-place-preserved g c =
    let F = g.F.Functions.told c.args.functions.now in
    let plan = plan_with c.args.valid.now c.args.exprs.now.items in
    let n = get_or c.args.order.now c.loop-place.place 0 in
    let is = subst (λ ns. slice_get ns n ≡ Some c.get.result.now) c.ir-in-loop-place.ensures c.get.ensures in
    let given = c.as_slice-in-loop-place-2.ensures.value ∙ c.in_ok-given.ensures.tables ∙ ap (tables_in c.loop-place.tables) (c.as_slice.ensures.value ∙ c.in_ok-inputs.ensures.inputs) in
    node-done F plan c.args.order.now c.args.until.now c.requires.survey c.requires.wanted
    c.loop-place.place c.loop-place.tables n c.get.result.now (slice_get-get_or c.args.order.now c.loop-place.place 0 c.loop-place-test.true) is c.loop-place.invariant
    c.in_ok-table.table c.release.new.self c.set.new.self (subst (λ fs. NodeGives F plan n fs c.in_ok-table.table) given c.in_ok-table.ensures.table) c.in_ok-table.ensures.schema c.release.ensures.size c.release.ensures.kept c.set.ensures

pub share-requires : goal.share-requires
share-requires g c =
    let F = g.F.Functions.told c.args.functions.now in
    let plan = plan_with c.args.valid.now c.args.exprs.now.items in
    let ended : c.loop-place.place ≡ length c.args.order.now = omega arith in
    subst (λ r. IsHeld c.loop-place.tables r) (sym c.root.ensures)
    (root-held F plan c.args.order.now c.args.until.now c.requires.survey c.requires.wanted c.loop-place.tables
    (subst (λ i. Walking F plan c.args.order.now c.args.until.now i c.loop-place.tables) ended c.loop-place.invariant) c.requires.valid.valid c.requires.root)

pub returns-clause-table : goal.returns-clause-table
returns-clause-table g c =
    let F = g.F.Functions.told c.args.functions.now in
    let plan = plan_with c.args.valid.now c.args.exprs.now.items in
    let ended : c.loop-place.place ≡ length c.args.order.now = omega arith in
    let means = root-means F plan c.args.order.now c.args.until.now c.requires.survey c.requires.wanted c.loop-place.tables
    (subst (λ i. Walking F plan c.args.order.now c.args.until.now i c.loop-place.tables) ended c.loop-place.invariant) c.requires.valid.valid c.requires.root in
    let at-root = ap (λ (r : Node). table_in c.loop-place.tables r) (sym c.root.ensures) in
    IfOk-weaker c.share.result (λ f. f ≡ table_in c.loop-place.tables c.root.result) (λ f. IsMeaning F (tree_of plan plan.root.0) (whole f))
    (λ f same. subst (λ f. IsMeaning F (tree_of plan plan.root.0) (whole f)) (at-root ∙ sym same) means) c.share.ensures.table
