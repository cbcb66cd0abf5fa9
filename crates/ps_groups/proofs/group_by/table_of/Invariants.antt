use Rattle.std.proofs.Common.{◌≡◌, ◌++◌}
use Rattle.ps_groups.proofs.group_by.table_of.Given as goal

abbrev pub invariant-loop-column : goal.invariant-loop-column
invariant-loop-column l = l.columns.items ++ l.column-iterator.rest.items ≡ l.fn.columns.items ++ l.fn.others.items
