-- Those at the places so far are changed.
use Rattle.std.proofs.Common.{false}
use Rattle.ps_frame.specs.Zip.{below}
use Rattle.world_pipes.proofs.pipes.Pipes.leave_out.Given as goal
use Rattle.world_pipes.specs.Changed.{Changed}
use Rattle.world_pipes.specs.Shown.{phase_pipe}

abbrev pub invariant-loop-place : goal.invariant-loop-place
invariant-loop-place l = Changed (phase_pipe false) (below l.place) l.fn.self.list.items l.self.list.items
