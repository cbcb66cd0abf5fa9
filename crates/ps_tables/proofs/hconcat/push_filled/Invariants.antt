use Rattle.std.proofs.Common.{◌≡◌, ◌++◌, take}
use Rattle.std.specs.Prelude.{map}
use Rattle.ps_tables.specs.Columns.{filled_to}
use Rattle.ps_tables.proofs.hconcat.push_filled.Given as goal

abbrev pub invariant-loop-column : goal.invariant-loop-column
invariant-loop-column l = l.columns.items ≡ l.initial.columns.items ++ map (filled_to l.height) (take l.column-index l.more)
