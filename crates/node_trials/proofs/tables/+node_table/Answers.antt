use Rattle.std.proofs.Common.{◌<◌, List, length, sym, subst}
use Rattle.ps_plan.proofs.ValidPlans.{reached-below}
use Rattle.ps_plan.specs.declared.ir.IR.{IR}
use Rattle.valid_plans.specs.Valid.{plan_with}
use Rattle.ps_walks.specs.Fit.{plan_schemas}
use Rattle.node_trials.proofs.Inputs.{all-fit, entry-there, input-reached, one-more}
use Rattle.node_trials.proofs.tables.+node_table.Goals as goal

pub get-requires : goal.get-requires
get-requires g t c =
    let F = g.F.Functions.told c.args.functions.now in
    subst (λ (ns : List IR). c.args.node.0 < length ns) (sym c.ir.ensures) (reached-below F (plan_with c.args.valid.now c.args.exprs.now.items) c.requires.valid.valid c.args.node.0 c.requires.reached)

pub node_table-requires-clause-reached : goal.node_table-requires-clause-reached
node_table-requires-clause-reached g t c =
    λ κs within.
    input-reached (plan_with c.args.valid.now c.args.exprs.now.items) c.args.node.0 c.get.result.now c.deref-input-items.result.now c.in_ok-inputs.inputs.items c.loop-input.input-index c.requires.reached
    (entry-there c.args.valid.now.nodes c.ir.result.now.items c.args.node.0 c.get.result.now c.ir.ensures c.get.ensures) c.deref-input-items.ensures.value c.in_ok-inputs.ensures c.loop-input-test.true

pub loop-input-preserved : goal.loop-input-preserved
loop-input-preserved g t c =
    let F = g.F.Functions.told c.args.functions.now in
    one-more (plan_schemas F (plan_with c.args.valid.now c.args.exprs.now.items)) c.push.new.self.items c.loop-input.tables.items c.in_ok-node_table.field-0 c.deref-input-items.result.now c.loop-input.input-index
    c.in_ok-push.ensures.items c.loop-input-test.true c.loop-input.invariant c.in_ok-node_table.ensures.schema

pub evaluate_node-requires-clause-inputs : goal.evaluate_node-requires-clause-inputs
evaluate_node-requires-clause-inputs g t c =
    λ κs within.
    let F = g.F.Functions.told c.args.functions.now in
    all-fit F (plan_with c.args.valid.now c.args.exprs.now.items) c.args.node.0 c.get.result.now c.as_slice.result.now c.loop-input.tables.items c.deref-input-items.result.now c.in_ok-inputs.inputs.items c.loop-input.input-index
    (entry-there c.args.valid.now.nodes c.ir.result.now.items c.args.node.0 c.get.result.now c.ir.ensures c.get.ensures) c.as_slice.ensures.value c.deref-input-items.ensures.value c.in_ok-inputs.ensures c.loop-input-test.false c.loop-input.invariant
