use Rattle.std.proofs.Common.{sym}
use Rattle.ps_frame.proofs.Rows.{length-rows_of}
use Rattle.ps_frame.proofs.frame_builder.FrameBuilder.height.Goals as goal

pub returns-clause-rows : goal.returns-clause-rows
returns-clause-rows c = rw (← c.self.view_is) (sym (length-rows_of c.self.inside.height c.self.inside.columns.items c.self.invariant.heights))
