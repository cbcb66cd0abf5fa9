use Rattle.std.proofs.Common.{◌≡◌, ◌++◌, ◌+◌, drop, length}
use Rattle.ps_frame.specs.EndToEnd.{end_to_end, starts_from}
use Rattle.ps_frame.proofs.runs.starts_of.Given as goal

abbrev pub invariant-loop-run : goal.invariant-loop-run
invariant-loop-run g l = record {
  noted : l.starts.items ++ starts_from l.next (drop l.run-index l.runs) ≡ starts_from l.start l.runs;
  left : l.next + length (end_to_end (drop l.run-index l.runs)) ≡ l.start + length (end_to_end l.runs);
}
