use Rattle.ps_frame.proofs.Broadcasts.{frame-broadcast}
use Rattle.ps_frame.proofs.frame.DataFrame.new_with_broadcast.Goals as goal

pub invariant_of-result : goal.invariant_of-result
invariant_of-result c =
    let can = c.can_broadcast.ensures.0 c.if-not-can_broadcast.false in
    let kinds = c.have_kinds.ensures.0 c.if-not-have_kinds.false in
    rw (c.into_shared.ensures, c.in-Ok.ensures.repeated, c.as_slice-3.ensures.value)
    (frame-broadcast c.args.schema c.args.columns.items c.common_height-height.result (rw c.as_slice-2.ensures.value at kinds) (rw c.as_slice-else-len.ensures.value at can) c.if-height.false)
