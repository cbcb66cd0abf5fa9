use Rattle.std.proofs.Common.{◌≡◌, take}
use Rattle.std.specs.Prelude.{map}
use Rattle.ps_frame.specs.Gathered.{value_or_null}
use Rattle.ps_frame.proofs.column.clones_or_nulls.Given as goal

abbrev pub invariant-loop-row : goal.invariant-loop-row
invariant-loop-row l = l.out.items ≡ map (λ place. value_or_null l.column.values place) (take l.row-index l.rows)
