use Rattle.std.proofs.Common.{◌≡◌, ◌+◌, ◌*◌, ◌<◌, ◌≤◌, length, get_or, arith, subst}
use Rattle.std.proofs.lemmas.Option.{slice_get-get_or}
use Rattle.ps_frame.specs.Trees.{tree_at}
use Rattle.ps_meaning.specs.PlanTrees.{all_sizes}
use Rattle.ps_meaning.specs.Steps.{step_exprs}
use Rattle.ps_plan.specs.Entries.{entry_step}
use Rattle.ps_survey.specs.Flaws.{plan_of}
use Rattle.ps_validate.proofs.Checking.{Checking, checked-schemas, checked-steps, checked-typed, checked-valid, node-complete, node-done, node-error, node-known, node-steps, place-within}
use Rattle.ps_validate.proofs.Typed.{passed-on}
use Rattle.ps_validate.proofs.validate.node_schemas.Goals as goal
use Rattle.ps_validate.specs.Errors.{IsPlanError}

pub get-requires : goal.get-requires
get-requires g c = place-within (g.F.Functions.told c.args.functions.now) (plan_of c.args.root c.args.ir.now.items c.args.exprs.now.items) c.args.order.now c.requires.survey c.requires.flaws c.requires.caches c.loop-node.node-index (get_or c.args.order.now c.loop-node.node-index 0) (slice_get-get_or c.args.order.now c.loop-node.node-index 0 c.loop-node-test.true)

pub check_node-requires-clause-complete : goal.check_node-requires-clause-complete
check_node-requires-clause-complete g c = λ κs lives. node-complete (g.F.Functions.told c.args.functions.now) (plan_of c.args.root c.args.ir.now.items c.args.exprs.now.items) c.args.order.now c.requires.survey c.requires.flaws c.requires.caches c.loop-node.node-index c.loop-node.schemas c.args.steps.now c.loop-node.steps (get_or c.args.order.now c.loop-node.node-index 0) c.get.result.now (slice_get-get_or c.args.order.now c.loop-node.node-index 0 c.loop-node-test.true) c.get.ensures c.loop-node.invariant

pub check_node-requires-clause-known : goal.check_node-requires-clause-known
check_node-requires-clause-known g c = λ κs lives. node-known (g.F.Functions.told c.args.functions.now) (plan_of c.args.root c.args.ir.now.items c.args.exprs.now.items) c.args.order.now c.requires.survey c.requires.flaws c.requires.caches c.loop-node.node-index c.loop-node.schemas c.args.steps.now c.loop-node.steps (get_or c.args.order.now c.loop-node.node-index 0) c.get.result.now (slice_get-get_or c.args.order.now c.loop-node.node-index 0 c.loop-node-test.true) c.get.ensures c.loop-node.invariant

pub returns-in_err-schema-clause-refused : goal.returns-in_err-schema-clause-refused
returns-in_err-schema-clause-refused g c =
    passed-on (IsPlanError (g.F.Functions.told c.args.functions.now) (plan_of c.args.root c.args.ir.now.items c.args.exprs.now.items)) c.in_err-schema.field-0.0 c.from_residual-in_err-schema.result c.from_residual-in_err-schema.ensures.1 (node-error (g.F.Functions.told c.args.functions.now) (plan_of c.args.root c.args.ir.now.items c.args.exprs.now.items) c.args.order.now c.requires.survey c.requires.flaws c.requires.caches c.loop-node.node-index c.loop-node.schemas c.args.steps.now c.loop-node.steps (get_or c.args.order.now c.loop-node.node-index 0) c.get.result.now (slice_get-get_or c.args.order.now c.loop-node.node-index 0 c.loop-node-test.true) c.get.ensures c.loop-node.invariant c.in_err-schema.field-0.0 c.in_err-schema.ensures.refused)

pub returns-in_err-schema-clause-steps : goal.returns-in_err-schema-clause-steps
returns-in_err-schema-clause-steps g c =
    let ticked = c.tick.ensures in
    let few : c.check_node.new.steps ≤ (c.loop-node.steps + 1) + 2 * all_sizes (step_exprs (entry_step (tree_at c.args.exprs.now.items) c.get.result.now)) = (let own = c.check_node.ensures.steps in omega arith) in
    node-steps (g.F.Functions.told c.args.functions.now) (plan_of c.args.root c.args.ir.now.items c.args.exprs.now.items) c.args.order.now c.requires.survey c.requires.flaws c.requires.caches c.loop-node.node-index c.loop-node.schemas c.args.steps.now c.loop-node.steps (get_or c.args.order.now c.loop-node.node-index 0) c.get.result.now (slice_get-get_or c.args.order.now c.loop-node.node-index 0 c.loop-node-test.true) c.get.ensures c.loop-node.invariant c.check_node.new.steps few

pub set-requires : goal.set-requires
set-requires g c =
    let size = c.loop-node.invariant.size in
    let within : (get_or c.args.order.now c.loop-node.node-index 0) < length c.args.ir.now.items = place-within (g.F.Functions.told c.args.functions.now) (plan_of c.args.root c.args.ir.now.items c.args.exprs.now.items) c.args.order.now c.requires.survey c.requires.flaws c.requires.caches c.loop-node.node-index (get_or c.args.order.now c.loop-node.node-index 0) (slice_get-get_or c.args.order.now c.loop-node.node-index 0 c.loop-node-test.true) in
    omega arith

pub loop-node-preserved : goal.loop-node-preserved
loop-node-preserved g c =
    let ticked = c.tick.ensures in
    let few : c.check_node.new.steps ≤ (c.loop-node.steps + 1) + 2 * all_sizes (step_exprs (entry_step (tree_at c.args.exprs.now.items) c.get.result.now)) = (let own = c.check_node.ensures.steps in omega arith) in
    let size = c.loop-node.invariant.size in
    let range : (get_or c.args.order.now c.loop-node.node-index 0) < length c.args.ir.now.items = place-within (g.F.Functions.told c.args.functions.now) (plan_of c.args.root c.args.ir.now.items c.args.exprs.now.items) c.args.order.now c.requires.survey c.requires.flaws c.requires.caches c.loop-node.node-index (get_or c.args.order.now c.loop-node.node-index 0) (slice_get-get_or c.args.order.now c.loop-node.node-index 0 c.loop-node-test.true) in
    let within : (get_or c.args.order.now c.loop-node.node-index 0) < length c.loop-node.schemas = omega arith in
    node-done (g.F.Functions.told c.args.functions.now) (plan_of c.args.root c.args.ir.now.items c.args.exprs.now.items) c.args.order.now c.requires.survey c.requires.flaws c.requires.caches c.loop-node.node-index c.loop-node.schemas c.args.steps.now c.loop-node.steps (get_or c.args.order.now c.loop-node.node-index 0) c.get.result.now (slice_get-get_or c.args.order.now c.loop-node.node-index 0 c.loop-node-test.true) c.get.ensures c.loop-node.invariant c.in_ok-schema.schema c.in_ok-schema.ensures.checked.placed c.in_ok-schema.ensures.checked.fit c.in_ok-schema.ensures.checked.given c.set.new.self c.check_node.new.steps c.set.ensures within few

pub returns-clause-valid : goal.returns-clause-valid
returns-clause-valid g c =
    let ended : c.loop-node.node-index ≡ length c.args.order.now = omega arith in
    checked-valid (g.F.Functions.told c.args.functions.now) (plan_of c.args.root c.args.ir.now.items c.args.exprs.now.items) c.args.order.now c.requires.survey c.requires.flaws c.requires.caches c.loop-node.schemas c.args.steps.now c.loop-node.steps (subst (λ i. Checking (g.F.Functions.told c.args.functions.now) (plan_of c.args.root c.args.ir.now.items c.args.exprs.now.items) c.args.order.now i c.loop-node.schemas c.args.steps.now c.loop-node.steps) ended c.loop-node.invariant)

pub returns-clause-schemas : goal.returns-clause-schemas
returns-clause-schemas g c =
    let ended : c.loop-node.node-index ≡ length c.args.order.now = omega arith in
    checked-schemas (g.F.Functions.told c.args.functions.now) (plan_of c.args.root c.args.ir.now.items c.args.exprs.now.items) c.args.order.now c.requires.survey c.requires.flaws c.requires.caches c.loop-node.schemas c.args.steps.now c.loop-node.steps (subst (λ i. Checking (g.F.Functions.told c.args.functions.now) (plan_of c.args.root c.args.ir.now.items c.args.exprs.now.items) c.args.order.now i c.loop-node.schemas c.args.steps.now c.loop-node.steps) ended c.loop-node.invariant)

pub returns-clause-typed : goal.returns-clause-typed
returns-clause-typed g c =
    let ended : c.loop-node.node-index ≡ length c.args.order.now = omega arith in
    checked-typed (g.F.Functions.told c.args.functions.now) (plan_of c.args.root c.args.ir.now.items c.args.exprs.now.items) c.args.order.now c.requires.survey c.requires.flaws c.requires.caches c.loop-node.schemas c.args.steps.now c.loop-node.steps (subst (λ i. Checking (g.F.Functions.told c.args.functions.now) (plan_of c.args.root c.args.ir.now.items c.args.exprs.now.items) c.args.order.now i c.loop-node.schemas c.args.steps.now c.loop-node.steps) ended c.loop-node.invariant)

pub returns-clause-steps : goal.returns-clause-steps
returns-clause-steps g c =
    let ended : c.loop-node.node-index ≡ length c.args.order.now = omega arith in
    checked-steps (g.F.Functions.told c.args.functions.now) (plan_of c.args.root c.args.ir.now.items c.args.exprs.now.items) c.args.order.now c.requires.survey c.requires.flaws c.requires.caches c.loop-node.schemas c.args.steps.now c.loop-node.steps (subst (λ i. Checking (g.F.Functions.told c.args.functions.now) (plan_of c.args.root c.args.ir.now.items c.args.exprs.now.items) c.args.order.now i c.loop-node.schemas c.args.steps.now c.loop-node.steps) ended c.loop-node.invariant)
