use Rattle.std.proofs.Common.{arith}
use Rattle.tool_ends.proofs.Pieces.{more_inside, on_err, write_front, write_more}
use Rattle.tool_ends.proofs.writing.write_whole.Goals as goal

pub returns-in_err-done-clause-front : goal.returns-in_err-done-clause-front
returns-in_err-done-clause-front g c =
    on_err c.from_residual.result (write_front _ _ _ c.args.text.now c.pieces.done c.pieces.invariant.written c.in_err-done.ensures.unwritten)

pub pieces-preserved : goal.pieces-preserved
pieces-preserved g c = record {
  written = write_more _ _ _ c.args.text.now c.pieces.done c.in_ok-done.field-0 c.pieces.invariant.written c.in_ok-done.ensures.front;
  counted = omega arith;
  inside = more_inside c.args.text.now c.pieces.done c.in_ok-done.field-0 c.pieces.invariant.inside c.in_ok-done.ensures.within;
}
