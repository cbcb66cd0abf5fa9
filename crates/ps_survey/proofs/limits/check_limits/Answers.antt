use Rattle.std.proofs.Common.{◌≡◌, ◌+◌, ◌<◌, ◌≤◌, ℕ, length, get_or, length-set, subst, sym, ◌∙◌, arith}
use Rattle.std.proofs.lemmas.Option.{slice_get_within}
use Rattle.std.specs.Prelude.{Bool, false, true, Contains}
use Rattle.ps_plan.proofs.Unfolding.{IsPlan-in_range}
use Rattle.ps_survey.specs.Counts.{looks_at}
use Rattle.ps_survey.specs.Extents.{HasExtent, IsExtent, expr_depth, expr_size, node_depth, node_size}
use Rattle.valid_plans.specs.Surveys.{IsWithinLimits}
use Rattle.ps_survey.specs.Flaws.{memory, plan_of}
use Rattle.ps_survey.specs.Orders.{all_in, exprs_in, inputs_in}
use Rattle.ps_survey.proofs.ExtentSteps.{named-before, table-all, table-more}
use Rattle.ps_survey.proofs.LimitLemmas.{node-looks, node-looks-within, past-limits, whole, within-limits, within-more}
use Rattle.ps_survey.proofs.PlanTrees.{node-extent}
use Rattle.ps_survey.proofs.Visits.{among, looks-all}
use Rattle.ps_survey.proofs.limits.check_limits.Goals as goal

pub returns-in-Err-clause-flaw : goal.returns-in-Err-clause-flaw
returns-in-Err-clause-flaw g c = λ root reached clear. memory

pub node_extent-extent-requires-clause-node : goal.node_extent-extent-requires-clause-node
node_extent-extent-requires-clause-node g c =
    let n = get_or c.args.order.now c.loop-node.node-index 0 in
    IsPlan-in_range c.args.nodes.now.items c.args.exprs.now.items (record { 0 = n }) (c.requires.complete n (among c.args.order.now c.loop-node.node-index c.loop-node-test.true))

pub node_extent-extent-requires-clause-inputs : goal.node_extent-extent-requires-clause-inputs
node_extent-extent-requires-clause-inputs g c = λ m h.
    let x = c.loop-node.invariant.extents m (named-before (inputs_in c.args.nodes.now.items) c.args.order.now c.loop-node.node-index c.loop-node-test.true c.requires.first m h) in
    let l = slice_get_within c.loop-node.table.items m x.0 x.1 in
    subst (λ xs. m < length xs) (sym c.deref.ensures.value) l

pub node_extent-extent-requires-clause-own : goal.node_extent-extent-requires-clause-own
node_extent-extent-requires-clause-own g c = λ e h.
    let n = get_or c.args.order.now c.loop-node.node-index 0 in
    let x = c.requires.own n e (among c.args.order.now c.loop-node.node-index c.loop-node-test.true) h in
    slice_get_within c.args.own.now e x.0 x.1

pub returns-then-is_past_limits-clause-flaw : goal.returns-then-is_past_limits-clause-flaw
returns-then-is_past_limits-clause-flaw g c = λ root reached clear.
    let order = c.args.order.now in
    let nodes = c.args.nodes.now.items in
    let exprs = c.args.exprs.now.items in
    let table = c.loop-node.table.items in
    let i = c.loop-node.node-index in
    let h = c.loop-node-test.true in
    let n = get_or order i 0 in
    let complete = c.requires.complete n (among order i h) in
    let inputs : (m : ℕ) → Contains (inputs_in nodes n) m → HasExtent c.deref.result.now m (node_depth nodes exprs m) (node_size nodes exprs m) = λ m b.
    subst (λ t. HasExtent t m (node_depth nodes exprs m) (node_size nodes exprs m)) (sym c.deref.ensures.value) (c.loop-node.invariant.extents m (named-before (inputs_in nodes) order i h c.requires.first m b)) in
    let below = c.node_extent-extent.ensures.extent (node_depth nodes exprs) (node_size nodes exprs) (expr_depth exprs) (expr_size exprs) inputs (λ e b. c.requires.own n e (among order i h) b) in
    let is = node-extent nodes exprs n complete c.node_extent-extent.result below in
    past-limits (plan_of root nodes exprs) n c.node_extent-extent.result (reached n (among order i h)) (clear n (among order i h)) is (c.is_past_limits.ensures.0 c.if-is_past_limits.true)

pub returns-then-is_past_limits-clause-steps : goal.returns-then-is_past_limits-clause-steps
returns-then-is_past_limits-clause-steps g c =
    let a = node-looks-within c.args.nodes.now.items c.args.order.now c.loop-node.node-index c.loop-node-test.true in
    let t = c.tick.ensures in
    let b = c.node_extent-extent.ensures.steps in
    let was = c.loop-node.invariant.looks in
    omega (arith, a, t, b, was)

pub index_mut-requires : goal.index_mut-requires
index_mut-requires g c =
    let n = get_or c.args.order.now c.loop-node.node-index 0 in
    let l = IsPlan-in_range c.args.nodes.now.items c.args.exprs.now.items (record { 0 = n }) (c.requires.complete n (among c.args.order.now c.loop-node.node-index c.loop-node-test.true)) in
    let s = c.loop-node.invariant.size in
    let v = c.loop-node.table.ok.0 in
    omega (arith, l, s, v)

pub loop-node-preserved : goal.loop-node-preserved
loop-node-preserved g c =
    let order = c.args.order.now in
    let nodes = c.args.nodes.now.items in
    let exprs = c.args.exprs.now.items in
    let table = c.loop-node.table.items in
    let i = c.loop-node.node-index in
    let h = c.loop-node-test.true in
    let n = get_or order i 0 in
    let complete = c.requires.complete n (among order i h) in
    let inputs : (m : ℕ) → Contains (inputs_in nodes n) m → HasExtent c.deref.result.now m (node_depth nodes exprs m) (node_size nodes exprs m) = λ m b.
    subst (λ t. HasExtent t m (node_depth nodes exprs m) (node_size nodes exprs m)) (sym c.deref.ensures.value) (c.loop-node.invariant.extents m (named-before (inputs_in nodes) order i h c.requires.first m b)) in
    let below = c.node_extent-extent.ensures.extent (node_depth nodes exprs) (node_size nodes exprs) (expr_depth exprs) (expr_size exprs) inputs (λ e b. c.requires.own n e (among order i h) b) in
    let is = node-extent nodes exprs n complete c.node_extent-extent.result below in
    let l = IsPlan-in_range nodes exprs (record { 0 = n }) complete in
    let s = c.loop-node.invariant.size in
    let fine = within-limits (node_depth nodes exprs n) (node_size nodes exprs n) c.node_extent-extent.result is (λ past. let p : false ≡ true = c.if-is_past_limits.ensures.1 past in cc) in
    let a = node-looks nodes order i h in
    let t = c.tick.ensures in
    let b = c.node_extent-extent.ensures.steps in
    let was = c.loop-node.invariant.looks in
    record {
      size = length-set table n c.node_extent-extent.result ∙ s;
      extents = table-more (node_depth nodes exprs) (node_size nodes exprs) order i h table c.node_extent-extent.result (omega (arith, l, s)) is c.loop-node.invariant.extents;
      within = within-more (λ m. IsWithinLimits (node_depth nodes exprs m) (node_size nodes exprs m)) order i h fine c.loop-node.invariant.within;
      looks = omega (arith, a, t, b, was);
    }

pub returns-clause-within : goal.returns-clause-within
returns-clause-within g c = λ n m. c.loop-node.invariant.within n (whole c.args.order.now c.loop-node.node-index c.loop-node-test.false n m)

pub returns-clause-steps : goal.returns-clause-steps
returns-clause-steps g c =
    let a = looks-all (all_in c.args.nodes.now.items) c.args.order.now c.loop-node.node-index in
    let was = c.loop-node.invariant.looks in
    omega (arith, a, was)
