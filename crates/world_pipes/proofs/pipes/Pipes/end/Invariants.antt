-- Those at the places so far are changed.
use Rattle.ps_frame.specs.Zip.{below}
use Rattle.world_pipes.proofs.pipes.Pipes.end.Given as goal
use Rattle.world_pipes.specs.Changed.{Changed}
use Rattle.world_pipes.specs.Shown.{ended_pipe}

abbrev pub invariant-loop-place : goal.invariant-loop-place
invariant-loop-place l = Changed ended_pipe (below l.place) l.fn.self.list.items l.self.list.items
