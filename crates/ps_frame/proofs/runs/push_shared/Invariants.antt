use Rattle.std.proofs.Common.{◌≡◌, ◌++◌, take}
use Rattle.ps_frame.proofs.runs.push_shared.Given as goal

abbrev pub invariant-loop-run : goal.invariant-loop-run
invariant-loop-run g l = l.shared.items ≡ l.initial.shared.items ++ take l.run-index l.runs
