use Rattle.std.proofs.Common.{◌≡◌, take, get_or}
use Rattle.std.specs.Prelude.{map}
use Rattle.ps_frame.proofs.column.places_at.Given as goal

abbrev pub invariant-loop-row : goal.invariant-loop-row
invariant-loop-row l = l.out.items ≡ map (λ i. get_or l.places i 0) (take l.row-index l.rows)
