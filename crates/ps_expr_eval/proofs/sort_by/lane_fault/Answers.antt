use Rattle.std.proofs.Common.{sym}
use Rattle.ps_expr_eval.proofs.LaneRows.{lane-end, lane-rest, lane-stop}
use Rattle.ps_expr_eval.proofs.Zips.{operand-cell}
use Rattle.ps_expr_eval.proofs.sort_by.lane_fault.Goals as goal

pub returns-in-Err : goal.returns-in-Err
returns-in-Err c =
    sym (lane-stop c.args.part.now c.args.rows c.loop-i.i c.in-Err.fault _ c.loop-i-test.true (operand-cell c.args.part.now c.loop-i.i _ _ c.repeats-repeats.ensures c.in-Err.ensures) c.loop-i.invariant)

pub loop-i-preserved : goal.loop-i-preserved
loop-i-preserved c =
    lane-rest c.args.part.now c.args.rows c.loop-i.i c.in_default.field-0.now _ c.loop-i-test.true (operand-cell c.args.part.now c.loop-i.i _ _ c.repeats-repeats.ensures c.in_default.ensures) c.loop-i.invariant

pub returns : goal.returns
returns c = lane-end c.args.part.now c.args.rows c.loop-i.i _ c.loop-i-test.false c.loop-i.invariant
