use Rattle.std.proofs.Common.{arith}
use Rattle.ps_phys.proofs.Places.{placed-next, placed-whole}
use Rattle.plan_readers.proofs.places.places_in.Goals as goal

pub loop-place-preserved : goal.loop-place-preserved
loop-place-preserved c =
    placed-next c.args.order.now c.loop-place.place _ c.loop-place.places.slots c.note_place.new.places.slots c.loop-place-test.true c.in_ok-note_place.ensures.placed c.loop-place.invariant

pub returns-clause-places : goal.returns-clause-places
returns-clause-places c = let past = c.loop-place-test.false in placed-whole c.args.order.now c.loop-place.place c.loop-place.places.slots (omega (arith, past)) c.loop-place.invariant
