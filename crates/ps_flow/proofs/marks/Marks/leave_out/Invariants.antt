-- So many are out of the phase.
use Rattle.std.proofs.Common.{◌≡◌}
use Rattle.ps_flow.proofs.Marking.{out_to}
use Rattle.ps_flow.proofs.marks.Marks.leave_out.Given as goal

abbrev pub invariant-loop-place : goal.invariant-loop-place
invariant-loop-place l = l.self.list.items ≡ out_to l.place l.fn.self.list.items
