use Rattle.std.proofs.Common.{◌≡◌, ℕ, get_or, sym, subst, arith}
use Rattle.std.proofs.lemmas.Option.{slice_get-get_or}
use Rattle.ps_frame.specs.Trees.{tree_at}
use Rattle.ps_meaning.specs.Sound.{IsFitNode}
use Rattle.ps_phys.specs.Shown.{physical_node}
use Rattle.ps_phys.specs.Underway.{numbers_in}
use Rattle.ps_phys.specs.Walks.{renumbered}
use Rattle.ps_phys.specs.declared.phys.PhysNodeKey.{PhysNodeKey}
use Rattle.plan_readers.proofs.Ordering.{each-end, each-next, node-stands, shape-length}
use Rattle.sound_plans.proofs.Standing.{fit-node}
use Rattle.sound_plans.specs.Named.{AreThereBelow}
use Rattle.plan_readers.specs.Ordered.{ordered}
use Rattle.sound_plans.proofs.plans.are_fit.Goals as goal

pub is_fit-requires-clause-complete : goal.is_fit-requires-clause-complete
is_fit-requires-clause-complete g c = λ κs lives.
    let count = c.len-in-loop-number.ensures in
    let P : ℕ → Type 0 = λ n. AreThereBelow (tree_at c.args.arena.now.items) n in
    c.node_names_below-named.ensures c.if-not-named.false (tree_at c.args.arena.now.items) (subst P (sym count) (c.are_in_order-in_order.ensures c.if-not-in_order.false))

pub loop-number-preserved : goal.loop-number-preserved
loop-number-preserved g c =
    let key : PhysNodeKey = get_or c.args.order.now c.loop-number.number (record { 0 = 0 }) in
    let f = tree_at c.args.arena.now.items in
    let F = g.F.Functions.told c.args.functions.now in
    let slots = c.args.phys.now.slots in
    let order = c.args.order.now in
    let at = slice_get-get_or order c.loop-number.number (record { 0 = 0 }) c.loop-number-test.true in
    record {
      fit =
          each-next (ordered f slots order) (IsFitNode F (ordered f slots order)) c.loop-number.number (renumbered (numbers_in order) (physical_node f c.in-Some.node.now)) (node-stands f slots order c.loop-number.number key c.in-Some.node.now at (sym c.in-Some.ensures))
          (fit-node F f slots order c.loop-number.number key c.in-Some.node.now c.args.places.now.slots c.loop-number-test.true at (sym c.in-Some.ensures) c.requires.places (c.are_earlier-earlier.ensures c.if-not-earlier.false) (c.in_ok-fit.ensures.fit c.if-not-fit.false)) c.loop-number.invariant.fit;
      cache = c.is_fit.ensures.cache;
    }

pub returns-clause-fit : goal.returns-clause-fit
returns-clause-fit g c = λ told.
    let f = tree_at c.args.arena.now.items in
    let F = g.F.Functions.told c.args.functions.now in
    let past = c.loop-number-test.false in
    let long = shape-length f c.args.phys.now.slots c.args.order.now in
    each-end (ordered f c.args.phys.now.slots c.args.order.now) (IsFitNode F (ordered f c.args.phys.now.slots c.args.order.now)) c.loop-number.number (omega (arith, past, long)) c.loop-number.invariant.fit
