use Rattle.std.proofs.Common.{◌≡◌, length, get_or}
use Rattle.std.specs.Prelude.{◌==◌, filter}
use Rattle.ps_frame.specs.Zip.{below}
use Rattle.ps_keys.specs.Numbering.{places_of}
use Rattle.ps_groups.proofs.kept_rows.single_rows.Given as goal

abbrev pub invariant-loop-row : goal.invariant-loop-row
invariant-loop-row l = l.rows.items ≡ filter (λ i. length (places_of (get_or l.keys i 0) l.keys) == 1) (below l.row)
