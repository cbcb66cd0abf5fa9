use Rattle.std.proofs.Common.{◌≡◌, take}
use Rattle.std.specs.Prelude.{map}
use Rattle.ps_frame.specs.Gathered.{value_or_null}
use Rattle.ps_frame.proofs.packed.pack_or_null.Given as goal

abbrev pub invariant-loop-row : goal.invariant-loop-row
invariant-loop-row l = l.packed ≡ record { kind = l.column.kind; values = map (λ place. value_or_null l.column.values place) (take l.row-index l.rows) }
