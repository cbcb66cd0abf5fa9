use Rattle.std.proofs.Common.{take}
use Rattle.ps_groups.specs.Reductions.{AreCounts}
use Rattle.ps_groups.proofs.by_key.counts_not_null.Given as goal

abbrev pub invariant-loop-row : goal.invariant-loop-row
invariant-loop-row l = AreCounts l.count l.column.values (take l.row l.keys) l.counts.items
