use Rattle.std.proofs.Common.{◌≡◌, length}
use Rattle.table_bench.proofs.table.mask.Given as goal

abbrev pub invariant-loop-row : goal.invariant-loop-row
invariant-loop-row l = length l.values.items ≡ l.row
