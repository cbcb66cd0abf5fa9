-- One key more, and in the end all.
use Rattle.std.proofs.Common.{arith, false}
use Rattle.flow_moves.proofs.Looking.{all_so, more_so, none_so}
use Rattle.flow_moves.proofs.waiting.input_with_next.Goals as goal
use Rattle.flow_moves.specs.Moves.{is_waiting}

pub loop-place-init : goal.loop-place-init
loop-place-init c = none_so c.args.pipes.now c.args.keys.now is_waiting false

pub loop-place-preserved : goal.loop-place-preserved
loop-place-preserved c = more_so c.args.pipes.now c.args.keys.now is_waiting false c.loop-place.place c.loop-place.invariant (c.waits_at.ensures.other c.if-waits_at.false)

pub returns-then-waits_at-clause-found : goal.returns-then-waits_at-clause-found
returns-then-waits_at-clause-found c = c.waits_at.ensures.yes c.if-waits_at.true

pub returns-clause-none : goal.returns-clause-none
returns-clause-none c =
    let over = c.loop-place-test.false in
    all_so c.args.pipes.now c.args.keys.now is_waiting false c.loop-place.place (omega (arith, over)) c.loop-place.invariant
