use Rattle.std.proofs.Common.{◌≡◌, ◌≤◌, ◌+◌, ◌++◌, length, take}
use Rattle.std.specs.Prelude.{vec_capacity, vec_len}
use Rattle.ps_frame.proofs.column.push_shown.Given as goal

abbrev pub invariant-loop-i : goal.invariant-loop-i
invariant-loop-i l = record {
  added : l.out.items ≡ l.fn.out.items ++ take l.i l.view;
  room : vec_len l.out + length l.view ≤ vec_capacity l.out + l.i;
}
