use Rattle.std.proofs.Common.{◌≡◌, ◌<◌, ◌∙◌, List, [], length, sym, subst, ap}
use Rattle.std.specs.Prelude.{Some, None, slice_get, unwrap_or}
use Rattle.ps_frame.specs.Trees.{tree_at}
use Rattle.ps_plan.proofs.ValidPlans.{reached-below}
use Rattle.ps_plan.specs.Plans.{tree_of}
use Rattle.ps_meaning.specs.Schemas.{tree_schema}
use Rattle.ps_plan.specs.Entries.{entry_step}
use Rattle.ps_plan.specs.declared.ir.IR.{IR}
use Rattle.valid_plans.specs.Valid.{plan_with}
use Rattle.ps_walks.specs.Fit.{plan_schemas}
use Rattle.ready_steps.specs.Ready.{IsReadyFor}
use Rattle.ps_node_eval.proofs.NodeSteps.{node-faults, node-gives, node-inputs, node-ready, node-schema}
use Rattle.ps_node_eval.proofs.node.evaluate_node.Goals as goal

pub get-requires : goal.get-requires
get-requires g c =
    let F = g.F.Functions.told c.args.functions.now in
    let plan = plan_with c.args.valid.now c.args.exprs.now.items in
    subst (λ (ns : List IR). c.args.node.0 < length ns) (sym c.ir.ensures) (reached-below F plan c.requires.valid.valid c.args.node.0 c.requires.reached)

pub schema-requires : goal.schema-requires
schema-requires g c =
    let F = g.F.Functions.told c.args.functions.now in
    let plan = plan_with c.args.valid.now c.args.exprs.now.items in
    (tree_schema F (tree_of plan c.args.node.0), c.requires.valid.schemas c.args.node.0 c.requires.reached)

pub evaluate_entry-requires-clause-ready : goal.evaluate_entry-requires-clause-ready
evaluate_entry-requires-clause-ready g c =
    λ κs within.
    let F = g.F.Functions.told c.args.functions.now in
    let plan = plan_with c.args.valid.now c.args.exprs.now.items in
    let is : slice_get c.args.valid.now.nodes c.args.node.0 ≡ Some c.get.result.now = ap (λ ns. slice_get ns c.args.node.0) (sym c.ir.ensures) ∙ c.get.ensures in
    let known : c.schema.result.now ≡ plan_schemas F plan c.args.node.0 = c.schema.ensures ∙ ap (λ o. unwrap_or (unwrap_or o None) []) (c.requires.valid.schemas c.args.node.0 c.requires.reached) in
    subst (λ s. IsReadyFor F (entry_step (tree_at c.args.exprs.now.items) c.get.result.now) c.args.inputs.now s) (sym known) (node-ready F plan c.args.node.0 c.get.result.now c.args.inputs.now is c.requires.valid.valid c.requires.valid.typed c.requires.reached c.requires.inputs)

pub evaluate_entry-requires-clause-inputs : goal.evaluate_entry-requires-clause-inputs
evaluate_entry-requires-clause-inputs g c =
    λ κs within.
    let F = g.F.Functions.told c.args.functions.now in
    let plan = plan_with c.args.valid.now c.args.exprs.now.items in
    let is : slice_get c.args.valid.now.nodes c.args.node.0 ≡ Some c.get.result.now = ap (λ ns. slice_get ns c.args.node.0) (sym c.ir.ensures) ∙ c.get.ensures in
    node-inputs F plan c.args.node.0 c.get.result.now c.args.inputs.now is c.requires.inputs

pub returns-clause-table : goal.returns-clause-table
returns-clause-table g c =
    let F = g.F.Functions.told c.args.functions.now in
    let plan = plan_with c.args.valid.now c.args.exprs.now.items in
    let is : slice_get c.args.valid.now.nodes c.args.node.0 ≡ Some c.get.result.now = ap (λ ns. slice_get ns c.args.node.0) (sym c.ir.ensures) ∙ c.get.ensures in
    node-gives F plan c.args.node.0 c.get.result.now c.args.inputs.now is c.evaluate_entry.result c.evaluate_entry.ensures.table

pub returns-clause-schema : goal.returns-clause-schema
returns-clause-schema g c =
    let F = g.F.Functions.told c.args.functions.now in
    let plan = plan_with c.args.valid.now c.args.exprs.now.items in
    let is : slice_get c.args.valid.now.nodes c.args.node.0 ≡ Some c.get.result.now = ap (λ ns. slice_get ns c.args.node.0) (sym c.ir.ensures) ∙ c.get.ensures in
    let laws = g.met.F.Functions g.world.𝓛 g.world.𝓜 g.world.𝓡 ((λ s x. x), (λ x. x), (λ x. x), λ x. x) in
    let lawful = laws.lawful c.args.functions.now in
    node-schema F plan c.args.node.0 c.get.result.now c.args.inputs.now is lawful (node-ready F plan c.args.node.0 c.get.result.now c.args.inputs.now is c.requires.valid.valid c.requires.valid.typed c.requires.reached c.requires.inputs) c.evaluate_entry.result c.evaluate_entry.ensures.table

pub returns-clause-fault : goal.returns-clause-fault
returns-clause-fault g c =
    let F = g.F.Functions.told c.args.functions.now in
    let plan = plan_with c.args.valid.now c.args.exprs.now.items in
    let is : slice_get c.args.valid.now.nodes c.args.node.0 ≡ Some c.get.result.now = ap (λ ns. slice_get ns c.args.node.0) (sym c.ir.ensures) ∙ c.get.ensures in
    node-faults F plan c.args.node.0 c.get.result.now c.args.inputs.now is c.evaluate_entry.result c.evaluate_entry.ensures.fault
