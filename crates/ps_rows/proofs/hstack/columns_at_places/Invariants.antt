use Rattle.std.proofs.Common.{take}
use Rattle.ps_rows.specs.Placed.{TakesPlaces}
use Rattle.ps_rows.proofs.hstack.columns_at_places.Given as goal

abbrev pub invariant-loop-i : goal.invariant-loop-i
invariant-loop-i l = TakesPlaces l.old l.new l.columns (take l.i l.schema) l.out.items
