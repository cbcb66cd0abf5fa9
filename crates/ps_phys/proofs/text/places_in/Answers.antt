use Rattle.ps_phys.proofs.Places.{placed-next}
use Rattle.ps_phys.proofs.text.places_in.Goals as goal

pub loop-place-preserved : goal.loop-place-preserved
loop-place-preserved c =
    placed-next c.args.order.now c.loop-place.place _ c.loop-place.places.slots c.note_place.new.places.slots c.loop-place-test.true c.in_ok-note_place.ensures.placed c.loop-place.invariant
