use Rattle.std.proofs.Common.{◌≡◌, ◌≤◌, take}
use Rattle.std.specs.Prelude.{count_by}
use Rattle.ps_frame.specs.Values.{is_true}
use Rattle.ps_frame.proofs.column.Column.count_true.Given as goal

abbrev pub invariant-loop-i : goal.invariant-loop-i
invariant-loop-i l = record { below : l.count ≤ l.i; counted : l.count ≡ count_by is_true (take l.i l.self.values) }
