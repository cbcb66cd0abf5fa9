use Rattle.std.proofs.Common.{ℕ, map, take}
use Rattle.std.specs.List.{AllZip}
use Rattle.ps_frame.specs.Eval.{picked}
use Rattle.ps_frame.specs.Evaluated.{Holds}
use Rattle.ps_compute.proofs.selection.gathered.Given as goal

abbrev pub invariant-loop-i : goal.invariant-loop-i
invariant-loop-i g l = (node : ℕ) → AllZip Holds l.cells.items (map (picked node (g.V.ValueList.values l.values)) (take l.i (g.I.ValueList.values l.indices)))
