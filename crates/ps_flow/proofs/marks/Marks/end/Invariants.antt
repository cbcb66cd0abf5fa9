-- So many have lost their marks.
use Rattle.std.proofs.Common.{◌≡◌}
use Rattle.ps_flow.proofs.Marking.{ended_to}
use Rattle.ps_flow.proofs.marks.Marks.end.Given as goal

abbrev pub invariant-loop-place : goal.invariant-loop-place
invariant-loop-place l = l.self.list.items ≡ ended_to l.place l.fn.self.list.items
