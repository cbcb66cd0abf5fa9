use Rattle.std.proofs.Common.{◌∷◌, [], take, append_assoc, arith}
use Rattle.ps_frame.proofs.Gathers.{take-value}
use Rattle.ps_frame.proofs.column.push_shown.Goals as goal

pub loop-i-preserved : goal.loop-i-preserved
loop-i-preserved c = record {
  added =
      rw (c.push_reserved.ensures.items, c.in_ok-try_clone.ensures.same, c.loop-i.invariant.added, take-value c.args.view.now c.loop-i.i c.value.result.now c.value.ensures)
      (append_assoc c.args.out.now.items (take c.loop-i.i c.args.view.now) (c.value.result.now ∷ []));
  room = omega arith;
}
