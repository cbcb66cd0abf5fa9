use Rattle.std.proofs.Common.{◌≡◌, ◌≤◌, length, not, take}
use Rattle.std.specs.Prelude.{filter}
use Rattle.ps_frame.specs.Values.{is_null}
use Rattle.ps_compute.proofs.aggregates.count_not_null.Given as goal

abbrev pub invariant-loop-i : goal.invariant-loop-i
invariant-loop-i g l = record { counted : l.count ≡ length (filter (λ v. not (is_null v)) (take l.i (g.L.ValueList.values l.values))); few : l.count ≤ l.i }
