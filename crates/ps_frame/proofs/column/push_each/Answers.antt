use Rattle.std.proofs.Common.{◌∷◌, [], take, append_assoc}
use Rattle.ps_frame.proofs.Gathers.{take-value}
use Rattle.ps_frame.proofs.column.push_each.Goals as goal

pub loop-i-preserved : goal.loop-i-preserved
loop-i-preserved c =
    rw (c.in_ok-push.ensures.items, c.in_ok-try_clone.ensures.same, c.loop-i.invariant, take-value c.args.column.now.values c.loop-i.i c.value.result.now c.value.ensures)
    (append_assoc c.args.out.now.items (take c.loop-i.i c.args.column.now.values) (c.value.result.now ∷ []))
