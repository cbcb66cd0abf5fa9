use Rattle.std.proofs.Common.{◌≡◌, ℕ, ◌<◌, refl, true, false, get_or, length, arith, List, Bool, subst}
use Rattle.plan_readers.proofs.Reading.{marks-end, marks-next}
use Rattle.plan_readers.proofs.readers.are_read_once.Goals as goal

pub loop-place-preserved : goal.loop-place-preserved
loop-place-preserved c =
    marks-next c.args.ports.now c.loop-place.place c.loop-place.read.items c.loop-place-test.true c.loop-place.invariant _ c.mark-is_new.new.read.items refl (c.mark-is_new.ensures.marked c.if-not-is_new.false) (c.mark-is_new.ensures.past c.if-not-is_new.false)

pub returns-clause-once : goal.returns-clause-once
returns-clause-once c = λ all.
    let past = c.loop-place-test.false in
    let P : List Bool → Type 0 = λ m. (i : ℕ) → i < length m → get_or m i false ≡ true in
    marks-end c.args.ports.now c.loop-place.place c.loop-place.read.items c.loop-place.invariant (omega (arith, past)) (subst P c.as_slice.ensures.value (c.are_all_true.ensures all))
