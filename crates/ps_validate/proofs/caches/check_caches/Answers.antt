use Rattle.std.proofs.Common.{◌≡◌, length, ◌∙◌, arith, sym, ap, subst, get_or}
use Rattle.std.specs.BTreeMap.{get}
use Rattle.std.specs.Ordering.{nat_cmp}
use Rattle.std.proofs.lemmas.Option.{slice_get-get_or}
use Rattle.ps_survey.proofs.Lists.{from-at}
use Rattle.ps_validate.proofs.Caching.{Caching, caching-end, caching-next, caching-skip, split-here}
use Rattle.ps_validate.proofs.caches.check_caches.Goals as goal
use Rattle.ps_validate.proofs.caches.check_caches.Goals.{in-Some+in_ok-first+else-first-input, in_default}

pub get-requires : goal.get-requires
get-requires g c =
    let n = get_or c.args.order.now c.loop-node.node-index 0 in
    c.requires n (from-at c.args.order.now c.loop-node.node-index n (slice_get-get_or c.args.order.now c.loop-node.node-index 0 c.loop-node-test.true))

pub returns-then-first-input-clause-refused : goal.returns-then-first-input-clause-refused
returns-then-first-input-clause-refused g c =
    split-here c.args.ir.now.items c.args.order.now c.loop-node.node-index (get_or c.args.order.now c.loop-node.node-index 0) c.get.result.now (slice_get-get_or c.args.order.now c.loop-node.node-index 0 c.loop-node-test.true) c.get.ensures (get nat_cmp c.loop-node.inputs) c.loop-node.invariant.ids c.in-Some.id c.in-Some.input
    c.in_ok-first.first c.in-Some.ensures c.in_ok-first.ensures.first c.if-first-input.true

pub loop-node-preserved : goal.loop-node-preserved
loop-node-preserved g c =
    record {
      ids = elim c.match-cache_of.branch [
        | in-Some+in_ok-first+else-first-input w ↦ caching-next c.args.ir.now.items c.args.order.now c.loop-node.node-index (get_or c.args.order.now c.loop-node.node-index 0) c.get.result.now (slice_get-get_or c.args.order.now c.loop-node.node-index 0 c.loop-node-test.true) c.get.ensures (get nat_cmp c.loop-node.inputs)
            c.loop-node.invariant.ids w.in-Some.id w.in-Some.input w.in_ok-first.first w.in-Some.ensures w.in_ok-first.ensures.first (get nat_cmp c.match-cache_of.inputs) (ap (λ m. get nat_cmp m w.in-Some.id) w.inputs-is ∙ w.in_ok-first.ensures.noted) (λ q ne. ap (λ m. get nat_cmp m q) w.inputs-is ∙ w.in_ok-first.ensures.others q ne) w.if-first-input.false
        | in_default w ↦ caching-skip c.args.ir.now.items c.args.order.now c.loop-node.node-index (get_or c.args.order.now c.loop-node.node-index 0) c.get.result.now (slice_get-get_or c.args.order.now c.loop-node.node-index 0 c.loop-node-test.true) c.get.ensures (get nat_cmp c.match-cache_of.inputs)
            (subst (λ m. Caching c.args.ir.now.items c.args.order.now c.loop-node.node-index (get nat_cmp m)) (sym w.inputs-is) c.loop-node.invariant.ids) w.in_default.ensures
      ];
      steps = omega arith;
    }

pub returns-clause-one_input : goal.returns-clause-one_input
returns-clause-one_input g c =
    let ended : c.loop-node.node-index ≡ length c.args.order.now = omega arith in
    caching-end c.args.ir.now.items c.args.order.now (get nat_cmp c.loop-node.inputs) (subst (λ i. Caching c.args.ir.now.items c.args.order.now i (get nat_cmp c.loop-node.inputs)) ended c.loop-node.invariant.ids)
