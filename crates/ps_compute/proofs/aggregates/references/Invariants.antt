use Rattle.std.proofs.Common.{◌≡◌, map, take}
use Rattle.ps_compute.proofs.aggregates.references.Given as goal

abbrev pub invariant-loop-i : goal.invariant-loop-i
invariant-loop-i g l = map (λ v. v.now) l.all.items ≡ take l.i (g.L.ValueList.values l.values)
