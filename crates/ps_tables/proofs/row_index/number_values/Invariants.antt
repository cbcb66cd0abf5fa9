use Rattle.std.proofs.Common.{◌≡◌}
use Rattle.ps_tables.specs.Numbers.{numbers_from}
use Rattle.ps_tables.proofs.row_index.number_values.Given as goal

abbrev pub invariant-loop-i : goal.invariant-loop-i
invariant-loop-i l = l.values.items ≡ numbers_from l.first l.i
