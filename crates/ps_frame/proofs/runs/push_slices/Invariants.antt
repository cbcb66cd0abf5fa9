use Rattle.std.proofs.Common.{◌≡◌, ◌++◌, ◌+◌, ◌≤◌, drop, length, take}
use Rattle.ps_frame.specs.EndToEnd.{end_to_end}
use Rattle.ps_frame.proofs.runs.push_slices.Given as goal

abbrev pub invariant-loop-run : goal.invariant-loop-run
invariant-loop-run g l = record {
  added : end_to_end l.parts.items ++ take l.left (drop l.skip (end_to_end (drop l.run-index l.runs))) ≡ end_to_end l.initial.parts.items ++ take l.count (drop l.offset (end_to_end l.runs));
  few : length l.parts.items ≤ length l.initial.parts.items + l.run-index;
}
