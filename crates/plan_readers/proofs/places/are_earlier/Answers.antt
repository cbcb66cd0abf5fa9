use Rattle.std.proofs.Common.{ℕ, ap, sym, arith}
use Rattle.ps_phys.specs.Shown.{inputs_of, stream_of}
use Rattle.plan_readers.proofs.Ordering.{earlier-end, earlier-next}
use Rattle.plan_readers.proofs.places.are_earlier.Goals as goal

pub loop-input-preserved : goal.loop-input-preserved
loop-input-preserved c =
    earlier-next c.args.places.now.slots c.args.before (inputs_of c.args.kind.now) c.loop-input.number (stream_of c.in-Some.input) (sym c.in-Some.ensures.stream)
    (let inside = c.if-place-before.false in let place = ap (λ (i : ℕ × ℕ). i.0) c.placed-place.ensures in omega (arith, inside, place)) c.loop-input.invariant

pub returns : goal.returns
returns c = λ told. earlier-end c.args.places.now.slots c.args.before (inputs_of c.args.kind.now) c.loop-input.number (sym c.in_default.ensures.stream) c.loop-input.invariant
