use Rattle.std.proofs.Common.{take}
use Rattle.ps_groups.specs.KeptRows.{AreLasts}
use Rattle.ps_groups.proofs.kept_rows.lasts_of.Given as goal

abbrev pub invariant-loop-row : goal.invariant-loop-row
invariant-loop-row l = AreLasts l.count (take l.row l.keys) l.lasts.items
