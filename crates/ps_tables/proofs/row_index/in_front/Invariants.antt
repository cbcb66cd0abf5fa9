use Rattle.std.proofs.Common.{◌≡◌, ◌∷◌, take}
use Rattle.ps_tables.proofs.row_index.in_front.Given as goal

abbrev pub invariant-loop-column : goal.invariant-loop-column
invariant-loop-column l = l.columns.items ≡ l.fn.first ∷ take l.column-index l.others
