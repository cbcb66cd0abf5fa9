-- One key more, and in the end all.
use Rattle.std.proofs.Common.{◌≡◌, arith, false, true}
use Rattle.flow_moves.proofs.Looking.{all_so, more_so, none_so}
use Rattle.flow_moves.proofs.waiting.are_through.Goals as goal
use Rattle.flow_moves.specs.Moves.{is_through}

pub loop-place-init : goal.loop-place-init
loop-place-init c = none_so c.args.pipes.now c.args.keys.now is_through true

pub loop-place-preserved : goal.loop-place-preserved
loop-place-preserved c = more_so c.args.pipes.now c.args.keys.now is_through true c.loop-place.place c.loop-place.invariant (c.has_ended_at.ensures.yes c.if-not-has_ended_at.false)

pub returns-then-not-has_ended_at-clause-other : goal.returns-then-not-has_ended_at-clause-other
returns-then-not-has_ended_at-clause-other c = λ is. let left = c.has_ended_at.ensures.other c.if-not-has_ended_at.true in (c.loop-place.place, left.0, left.1, left.2)

pub returns-clause-yes : goal.returns-clause-yes
returns-clause-yes c = λ is.
    let over = c.loop-place-test.false in
    all_so c.args.pipes.now c.args.keys.now is_through true c.loop-place.place (omega (arith, over)) c.loop-place.invariant

pub returns-clause-other : goal.returns-clause-other
returns-clause-other c = λ is. absurd (let clash : true ≡ false = is in cc)
