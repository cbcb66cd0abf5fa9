use Rattle.std.proofs.Common.{add-one, sym}
use Rattle.ps_frame.proofs.Broadcasts.{empties-step}
use Rattle.ps_frame.proofs.frame_builder.empty_builders.Goals as goal

pub loop-i-preserved : goal.loop-i-preserved
loop-i-preserved c = rw (c.in_ok-push.ensures.items, c.new.ensures, c.loop-i.invariant, add-one) (sym (empties-step c.args.schema.now c.loop-i.i c.kind.result c.kind.ensures))
