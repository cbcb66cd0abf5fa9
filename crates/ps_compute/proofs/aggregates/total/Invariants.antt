use Rattle.std.proofs.Common.{◌≡◌, take}
use Rattle.std.specs.Int.{int_wrap, w64}
use Rattle.ps_frame.specs.Aggregates.{total}
use Rattle.ps_compute.proofs.aggregates.total.Given as goal

abbrev pub invariant-loop-i : goal.invariant-loop-i
invariant-loop-i g l = l.sum ≡ int_wrap w64 (total (take l.i (g.L.ValueList.values l.values)))
