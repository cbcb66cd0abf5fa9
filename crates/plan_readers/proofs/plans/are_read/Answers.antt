use Rattle.std.proofs.Common.{◌≡◌, [], get_or, sym, subst, arith}
use Rattle.std.proofs.lemmas.Option.{slice_get-get_or}
use Rattle.ps_phys.specs.Shown.{kind_of, physical_node}
use Rattle.ps_phys.specs.Underway.{numbers_in}
use Rattle.ps_phys.specs.Walks.{renumbered}
use Rattle.ps_phys.specs.declared.phys.PhysNodeKey.{PhysNodeKey}
use Rattle.plan_readers.proofs.Ordering.{each-end, each-next, item-is, node-stands, shape-length}
use Rattle.plan_readers.specs.Readers.{IsReadAs}
use Rattle.plan_readers.specs.Ordered.{ordered}
use Rattle.plan_readers.proofs.plans.are_read.Goals as goal

pub loop-number-preserved : goal.loop-number-preserved
loop-number-preserved c = λ f.
    let key : PhysNodeKey = get_or c.args.order.now c.loop-number.number (record { 0 = 0 }) in
    let slots = c.args.phys.now.slots in
    let order = c.args.order.now in
    let within = c.loop-number-test.true in
    let long = c.requires in
    let ports : c.index-readers-number.result ≡ get_or c.args.readers.now c.loop-number.number [] = item-is c.args.readers.now c.loop-number.number c.index-readers-number.result (omega (arith, within, long)) c.index-readers-number.is in
    each-next (ordered f slots order) (λ n p. IsReadAs p.kind (get_or c.args.readers.now n [])) c.loop-number.number (renumbered (numbers_in order) (physical_node f c.in-Some.node.now))
    (node-stands f slots order c.loop-number.number key c.in-Some.node.now (slice_get-get_or order c.loop-number.number (record { 0 = 0 }) c.loop-number-test.true) (sym c.in-Some.ensures))
    (subst (IsReadAs (kind_of f c.in-Some.node.now.kind)) ports (c.in_ok-read.ensures.read c.if-not-read.false f)) (c.loop-number.invariant f)

pub returns-clause-read : goal.returns-clause-read
returns-clause-read c = λ told f.
    let past = c.loop-number-test.false in
    let long = shape-length f c.args.phys.now.slots c.args.order.now in
    each-end (ordered f c.args.phys.now.slots c.args.order.now) (λ n p. IsReadAs p.kind (get_or c.args.readers.now n [])) c.loop-number.number (omega (arith, past, long)) (c.loop-number.invariant f)
