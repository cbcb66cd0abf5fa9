use Rattle.std.proofs.Common.{◌≤◌, length, arith}
use Rattle.plan_lowering_trials.proofs.Kept.{all_kept, one_more}
use Rattle.plan_lowering_trials.proofs.kinds.are_always_kept.Goals as goal

pub loop-number-preserved : goal.loop-number-preserved
loop-number-preserved c = one_more c.args.ir.now.items c.loop-number.number c.get.result.now c.get.ensures c.if-not-is_always_kept.ensures c.loop-number.invariant

pub returns : goal.returns
returns c =
    let past = c.loop-number-test.false in
    let long = c.len-number-end.ensures in
    let le : length c.args.ir.now.items ≤ c.loop-number.number = omega (arith, past, long) in
    all_kept c.args.ir.now.items c.loop-number.number le c.loop-number.invariant
