use Rattle.std.proofs.Common.{take}
use Rattle.ps_groups.specs.Reductions.{AreSums}
use Rattle.ps_groups.proofs.by_key.wrapped_sums.Given as goal

abbrev pub invariant-loop-row : goal.invariant-loop-row
invariant-loop-row l = AreSums l.count l.column.values (take l.row l.keys) l.sums.items
