use Rattle.std.proofs.Common.{◌≡◌}
use Rattle.std.specs.Prelude.{filter, not}
use Rattle.ps_frame.specs.Zip.{below}
use Rattle.ps_groups.specs.KeptRows.{comes_again}
use Rattle.ps_groups.proofs.kept_rows.last_rows.Given as goal

abbrev pub invariant-loop-row : goal.invariant-loop-row
invariant-loop-row l = l.rows.items ≡ filter (λ i. not (comes_again l.keys i)) (below l.row)
