use Rattle.std.proofs.Common.{◌≤◌, length, arith}
use Rattle.sound_plans.proofs.Naming.{all-there}
use Rattle.sound_plans.proofs.named.are_in_order.Goals as goal

pub returns : goal.returns
returns c = λ told.
    let past = c.loop-number-test.false in
    let long = c.len-number-end.ensures in
    all-there c.args.arena.now.items c.loop-number.number (omega (arith, past, long)) c.loop-number.invariant
