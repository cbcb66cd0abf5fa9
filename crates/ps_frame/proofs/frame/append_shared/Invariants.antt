use Rattle.std.proofs.Common.{◌≡◌, ◌++◌, take}
use Rattle.ps_frame.proofs.frame.append_shared.Given as goal

abbrev pub invariant-loop-column : goal.invariant-loop-column
invariant-loop-column l = l.shared.items ≡ l.initial.shared.items ++ take l.column-index l.columns
