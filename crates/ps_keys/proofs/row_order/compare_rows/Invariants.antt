use Rattle.std.proofs.Common.{◌≡◌}
use Rattle.std.specs.Cmp.Lexicographic.{slice_cmp}
use Rattle.ps_frame.specs.Values.{value_cmp}
use Rattle.ps_keys.specs.Hashes.{row_at}
use Rattle.ps_keys.proofs.RowOrder.{cmp_from}
use Rattle.ps_keys.proofs.row_order.compare_rows.Given as goal

abbrev pub invariant-loop-i : goal.invariant-loop-i
invariant-loop-i l = slice_cmp value_cmp (row_at l.a_columns l.a) (row_at l.b_columns l.b) ≡ cmp_from l.i (row_at l.a_columns l.a) (row_at l.b_columns l.b)
