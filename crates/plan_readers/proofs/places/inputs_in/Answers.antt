use Rattle.std.proofs.Common.{get_or, refl, sym, arith}
use Rattle.std.proofs.lemmas.Option.{slice_get-get_or}
use Rattle.ps_phys.specs.declared.phys.PhysNodeKey.{PhysNodeKey}
use Rattle.plan_readers.proofs.Ordering.{inputs-end, inputs-next}
use Rattle.plan_readers.proofs.places.inputs_in.Goals as goal

pub loop-number-preserved : goal.loop-number-preserved
loop-number-preserved c = λ f.
    let key : PhysNodeKey = get_or c.args.order.now c.loop-number.number (record { 0 = 0 }) in
    inputs-next f c.args.phys.now.slots c.args.order.now c.loop-number.number key c.in-Some.node.now c.args.places.now.slots _ c.loop-number.inputs.items c.push_inputs.new.inputs.items
    (slice_get-get_or c.args.order.now c.loop-number.number (record { 0 = 0 }) c.loop-number-test.true) (sym c.in-Some.ensures) c.requires.places refl c.in_ok-push_inputs.ensures.pushed (c.loop-number.invariant f)

pub returns-clause-inputs : goal.returns-clause-inputs
returns-clause-inputs c = λ f.
    let past = c.loop-number-test.false in
    inputs-end f c.args.phys.now.slots c.args.order.now c.loop-number.number c.loop-number.inputs.items (omega (arith, past)) (c.loop-number.invariant f)
